pub mod Pieces
pub mod Taking
pub mod Standing
pub mod Means
pub mod TestFeeds
