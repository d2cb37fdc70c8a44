pub mod Driving
pub mod PortLists
