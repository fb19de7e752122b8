pub mod Sequences
