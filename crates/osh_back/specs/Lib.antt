pub mod Spelled
pub mod BackLaws
pub mod WorkedPrints
