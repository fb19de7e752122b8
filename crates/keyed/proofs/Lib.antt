pub mod Xor
pub mod Same
pub mod Filled
pub mod Digests
pub mod Hmac
pub mod Tags
pub mod Answers
