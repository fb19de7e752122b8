pub mod Each
pub mod Columns
pub mod Bytes
