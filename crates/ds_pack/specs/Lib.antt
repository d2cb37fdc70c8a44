pub mod Batches
pub mod Packed
