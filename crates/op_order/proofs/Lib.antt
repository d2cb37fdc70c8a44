pub mod Standing
pub mod Means
pub mod MarkLaws
pub mod SortLaws
pub mod Examples
pub mod Runs
