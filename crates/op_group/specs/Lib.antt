pub mod Results
pub mod Groups
pub mod Kept
pub mod Runs
pub mod Tables
pub mod AreStreams
pub mod Laws
