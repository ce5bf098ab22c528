-- What the clauses of public functions say.
pub mod Cursor
pub mod Legacy
pub mod LegacyNumber
pub mod PrefixNumbers
pub mod Digit
pub mod Numbers
pub mod Packed
pub mod Entry
pub mod EntryLine
