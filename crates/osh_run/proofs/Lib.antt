pub mod Ready
pub mod Serving
pub mod Stopping
