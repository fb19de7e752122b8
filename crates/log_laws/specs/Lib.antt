pub mod Labels
pub mod Extensions
pub mod Places
