pub mod Derive
pub mod Filling
pub mod LinkStates
pub mod Outlines
