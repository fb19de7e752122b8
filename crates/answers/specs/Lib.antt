pub mod Refusal
pub mod Written
pub mod Handed
