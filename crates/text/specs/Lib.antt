pub mod Place
pub mod Digits
