-- What the clauses of public functions say.
pub mod Inst
-- Steps of the proofs.
pub mod Group
pub mod OfSignature
