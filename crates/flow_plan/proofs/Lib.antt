pub mod Members
pub mod Following
pub mod Wiring
