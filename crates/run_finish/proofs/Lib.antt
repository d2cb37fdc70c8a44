pub mod Closing
pub mod Exporting
pub mod Reporting
pub mod Writing
