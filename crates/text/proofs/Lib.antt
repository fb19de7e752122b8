pub mod Storing
pub mod Spelling
pub mod Decimal
