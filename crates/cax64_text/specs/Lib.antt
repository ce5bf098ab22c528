-- What the clauses of public functions say.
pub mod Names
pub mod Mnemonic
pub mod Style
pub mod Operand
pub mod Text
pub mod PrintedAlike
-- The steps of proofs.
pub mod Made
pub mod Slots
