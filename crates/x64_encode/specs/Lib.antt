-- What the clauses say.
pub mod Encode
-- Steps of the proofs.
pub mod ByLine
