pub mod Exact
pub mod Labels
pub mod Room
pub mod Places
pub mod Registers
pub mod Extensions
