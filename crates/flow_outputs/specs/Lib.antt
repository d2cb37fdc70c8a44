pub mod Fronts
pub mod Outputs
