pub mod Stored
pub mod Moves
