pub mod Spelled
pub mod Read
pub mod Unique
pub mod Lines
