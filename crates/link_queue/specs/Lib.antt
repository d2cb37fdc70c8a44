pub mod Told
pub mod Link
pub mod Queues
pub mod Seats
pub mod Making
pub mod Listed
