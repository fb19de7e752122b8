pub mod Before
pub mod Forgotten
