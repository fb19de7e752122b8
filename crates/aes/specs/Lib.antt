pub mod Field
pub mod Round
