pub mod Expansion
pub mod Cipher
pub mod Compression
pub mod Run
pub mod Window
