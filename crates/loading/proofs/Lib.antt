pub mod Answers
pub mod Bounds
pub mod Judging
pub mod Made
pub mod Numbers
