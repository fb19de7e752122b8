pub mod Forms
pub mod Judging
pub mod Words
pub mod Back
pub mod Exact
pub mod Cut
pub mod Carries
