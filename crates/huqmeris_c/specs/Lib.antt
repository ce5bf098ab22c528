-- What the clauses of the exports say.
pub mod Given
pub mod Encodes
pub mod Outcome
pub mod OfReading
pub mod InTurn
pub mod Each
pub mod Data
pub mod Traps
pub mod Items
pub mod Text
pub mod LineUse
-- Steps of the proofs.
pub mod PutCode
pub mod Listed
pub mod Putting
