pub mod Bytes
pub mod Below
