pub mod Keyed
pub mod Matched
