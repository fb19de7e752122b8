pub mod Fitting
pub mod Firsts
