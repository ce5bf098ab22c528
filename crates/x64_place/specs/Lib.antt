-- What the clauses of public functions say.
pub mod Place
pub mod Kind
pub mod Operand
pub mod Homes
pub mod Renamed
pub mod When
pub mod Head
pub mod Heads
pub mod Code
-- Steps of the proofs.
pub mod Tail
pub mod TailPart
