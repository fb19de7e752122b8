pub mod Cuts
pub mod Tests
pub mod Middle
pub mod Shot
pub mod Answers
