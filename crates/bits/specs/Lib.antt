pub mod Bits
pub mod Message
