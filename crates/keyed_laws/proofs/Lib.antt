pub mod States
pub mod Joined
pub mod Tags
pub mod Keys
