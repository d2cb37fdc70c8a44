pub mod Repeats
pub mod Stepping
pub mod Joins
pub mod Tokens
