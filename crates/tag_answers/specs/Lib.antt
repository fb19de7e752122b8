pub mod Tagged
pub mod TagCheck
