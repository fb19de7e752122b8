pub mod Numbers
pub mod One
pub mod OneKeyed
pub mod Two
pub mod Three
