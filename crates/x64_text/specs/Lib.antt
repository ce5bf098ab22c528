-- What the clauses of public functions say.
pub mod Mnemonics
pub mod Style
pub mod Text
-- Steps of the proofs.
pub mod Fixed
