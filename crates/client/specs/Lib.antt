-- The words that the clauses of public functions cite.
pub mod Homes
pub mod Classes
pub mod Rounds
