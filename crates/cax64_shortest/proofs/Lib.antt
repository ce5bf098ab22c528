pub mod PrefixLength
pub mod Numbers
pub mod Whole
pub mod Structs
