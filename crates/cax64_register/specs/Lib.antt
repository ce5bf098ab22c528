-- What the clauses of public functions say.
pub mod Names
pub mod Real
