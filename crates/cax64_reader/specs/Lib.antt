-- What the clauses of public functions say.
pub mod Front
pub mod Found
pub mod Lengths
pub mod ByLine
pub mod Range
-- Steps of the proofs.
pub mod PrefixWith
pub mod Field
