pub mod Filling
pub mod Limits
pub mod Soundness
pub mod Zeros
