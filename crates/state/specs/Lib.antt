pub mod Bytes
pub mod State
