pub mod Limits
pub mod Places
pub mod Flat
pub mod Views
pub mod Readings
pub mod Ready
