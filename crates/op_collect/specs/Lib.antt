pub mod Standing
pub mod Merging
pub mod AreStreams
pub mod Laws
pub mod Merged
