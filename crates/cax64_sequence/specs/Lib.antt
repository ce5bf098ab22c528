-- What the clauses of public functions say.
pub mod List
pub mod Each
pub mod Stopped
pub mod Message
