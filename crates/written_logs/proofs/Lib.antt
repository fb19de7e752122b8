pub mod Back
pub mod Comparing
pub mod Accepted
pub mod Again
