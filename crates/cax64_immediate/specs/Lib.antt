-- What the clauses of public functions say.
pub mod Text
