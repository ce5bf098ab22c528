pub mod Words
pub mod Address
pub mod Tail
pub mod Command
pub mod Fault
