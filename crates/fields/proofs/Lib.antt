pub mod Numbers
pub mod Parts
pub mod Storing
pub mod There
pub mod Comparing
