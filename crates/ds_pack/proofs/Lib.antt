pub mod Batched
pub mod Numbers
pub mod Rows
