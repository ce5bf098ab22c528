pub mod Numbers
pub mod Prefixes
pub mod Fronts
pub mod Lengths
pub mod Longest
pub mod Range
