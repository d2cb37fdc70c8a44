pub mod Reading
pub mod Methods
pub mod Options
pub mod Stages
pub mod Joining
pub mod Flows
