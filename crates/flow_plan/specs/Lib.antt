pub mod Data
pub mod Planned
