-- What the clauses say.
pub mod Layout
pub mod Growing
