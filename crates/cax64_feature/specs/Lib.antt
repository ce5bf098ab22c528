-- What the clauses of public functions say.
pub mod Term
pub mod Row
