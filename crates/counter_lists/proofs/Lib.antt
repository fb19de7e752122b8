pub mod Words
pub mod Counters
pub mod Openings
