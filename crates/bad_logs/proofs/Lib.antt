pub mod Walk
pub mod Reach
pub mod Begun
pub mod Meanings
pub mod Far
