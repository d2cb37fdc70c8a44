pub mod Calls
pub mod Groups
pub mod Meaning
pub mod Scales
pub mod TableRows
