pub mod Marked
pub mod BadBuilds
