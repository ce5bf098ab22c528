pub mod Fits
pub mod Named
pub mod Means
pub mod Folded
pub mod Made
pub mod Why
