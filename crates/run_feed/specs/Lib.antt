pub mod Fed
pub mod Inputs
pub mod Sources
