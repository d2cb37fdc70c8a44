pub mod Causes
pub mod Fields
pub mod Naming
pub mod Widths
