pub mod Names
pub mod Literals
pub mod Typing
pub mod Typed
pub mod Values
pub mod Assigning
