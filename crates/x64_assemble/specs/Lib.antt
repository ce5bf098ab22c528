-- What the clauses say.
pub mod Listed
pub mod Assembled
pub mod Refused
pub mod Message
-- Steps of the proofs.
pub mod Putting
