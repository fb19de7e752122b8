pub mod Pages
pub mod Lengths
pub mod Bounds
pub mod Refusals
pub mod Example
