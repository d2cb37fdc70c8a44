pub mod Told
pub mod Finding
pub mod Feeding
pub mod Means
pub mod Suiting
