pub mod Startup
pub mod Printed
