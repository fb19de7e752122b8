pub mod SboxRule
