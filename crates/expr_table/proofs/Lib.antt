pub mod Examples
pub mod Names
pub mod Found
pub mod Results
pub mod RowResults
pub mod Nulls
pub mod RowNulls
