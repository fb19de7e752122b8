pub mod Printout
pub mod Page
