pub mod Tests
pub mod Judged
pub mod Numbers
pub mod Handing
