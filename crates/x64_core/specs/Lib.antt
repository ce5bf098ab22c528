-- What the clauses of public functions say.
pub mod Viewed
pub mod View
pub mod Core
pub mod Fits
pub mod Adds
pub mod Refusal
pub mod Rename
pub mod Value
pub mod Nop
pub mod ReadAs
pub mod OfReading
-- Steps of the proofs.
pub mod ByLine
pub mod Form
