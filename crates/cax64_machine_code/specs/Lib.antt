-- What the clauses of public functions say.
pub mod Fields
pub mod Tail
pub mod Address
pub mod Prefix
pub mod Evex
pub mod Apx
pub mod Line
pub mod Rows
pub mod Branch
pub mod Reading
pub mod Apart
pub mod ReadLine
pub mod Sequence
pub mod Shortest
pub mod Len
-- Words of worked examples.
pub mod WorkedLine
