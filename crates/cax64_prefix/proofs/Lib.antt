pub mod Bits
pub mod EvexBits
pub mod PrefixLengths
pub mod Prefixes
pub mod RexBits
pub mod VexBits
