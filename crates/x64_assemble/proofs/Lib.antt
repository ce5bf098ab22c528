pub mod Items
pub mod Told
pub mod Pieces
pub mod Entries
pub mod Steps
pub mod Ends
