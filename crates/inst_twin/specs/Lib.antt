-- What the clauses of public functions say.
pub mod Twin
-- Steps of the proofs.
pub mod OfSignature
pub mod Group
