pub mod Joining
pub mod Waiting
pub mod Rounds
pub mod AreStreams
pub mod Laws
