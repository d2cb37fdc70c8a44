pub mod CodeSteps
pub mod Settled
pub mod KeyLists
pub mod Fills
