pub mod First
pub mod Maps
pub mod Paths
pub mod Taken
