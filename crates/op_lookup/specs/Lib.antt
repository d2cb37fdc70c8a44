pub mod Looked
pub mod Table
pub mod Standing
pub mod AreStreams
pub mod Laws
