pub mod Rooms
pub mod Lists
pub mod Putting
pub mod InTurn
pub mod Rows
