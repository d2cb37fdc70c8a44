pub mod Stages
pub mod Orders
pub mod Meant
pub mod Commands
