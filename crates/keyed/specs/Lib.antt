pub mod Hmac
pub mod Running
pub mod Calls
