pub mod Answers
pub mod Putting
