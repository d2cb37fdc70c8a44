pub mod Keyed
pub mod Kinds
pub mod Kept
