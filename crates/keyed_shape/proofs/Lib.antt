pub mod Both
pub mod Joined
pub mod Others
pub mod Matched
