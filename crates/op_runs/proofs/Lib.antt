pub mod Ports
pub mod Settled
pub mod Given
