pub mod Blocking
pub mod Running
pub mod Stores
pub mod Held
pub mod Endings
pub mod Closing
pub mod Answers
pub mod Hashing
