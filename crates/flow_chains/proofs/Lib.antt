pub mod Following
pub mod Sending
