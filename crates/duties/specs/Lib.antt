pub mod Asked
pub mod Keyed
