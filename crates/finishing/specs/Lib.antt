pub mod Blocks
pub mod Finish
pub mod Hash
