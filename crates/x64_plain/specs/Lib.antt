-- What the clauses of public functions say.
pub mod Plain
pub mod Reading
pub mod Status
pub mod Told
-- Steps of the proofs.
pub mod Named
pub mod NamedReading
pub mod Encodable
