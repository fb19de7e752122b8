pub mod Fours
pub mod Growing
pub mod Rounds
pub mod Compressed
pub mod Grown
pub mod Sixteen
pub mod Windowed
pub mod Runs
