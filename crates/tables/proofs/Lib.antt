pub mod Listed
pub mod Rounds
