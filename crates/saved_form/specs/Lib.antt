pub mod Sized
pub mod Form
