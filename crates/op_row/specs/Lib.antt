pub mod ByRow
pub mod Judging
pub mod Expressed
pub mod Verdicts
pub mod Setting
pub mod AreStreams
pub mod Laws
