pub mod Wanted
pub mod Standing
pub mod Lanes
pub mod Turns
pub mod Means
pub mod OneMerge
