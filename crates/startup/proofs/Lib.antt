pub mod Printed
pub mod Started
