pub mod Running
pub mod Calls
