pub mod Alike
mod Examples
pub mod Fit
pub mod Held
pub mod Keeping
pub mod Making
pub mod Putting
pub mod Typing
