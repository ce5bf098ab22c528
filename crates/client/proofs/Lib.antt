pub mod Readings
mod Left
mod Round
