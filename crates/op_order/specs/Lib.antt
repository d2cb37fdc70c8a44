pub mod Ordered
pub mod Marks
pub mod Laws
pub mod AreStreams
