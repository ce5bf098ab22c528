-- What the clauses of public functions say.
pub mod Rex
pub mod Vex
pub mod Evex
pub mod Apx
-- Steps of the proofs.
pub mod HeldByte
