-- What the clauses of public functions say.
pub mod Lines
pub mod Line
pub mod Shape
pub mod Refusal
pub mod Message
pub mod LineOperands
pub mod Flags
pub mod Extension
