pub mod Places
pub mod Rooms
pub mod Growth
pub mod Rippling
