-- What the clauses of public functions say.
pub mod Reading
pub mod Taken
-- Steps of the proofs.
pub mod Index
pub mod Others
