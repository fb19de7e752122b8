pub mod Bytes
pub mod Padding
pub mod Digests
pub mod Telling
