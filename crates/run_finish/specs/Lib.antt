pub mod Endings
pub mod Finished
pub mod Reported
pub mod Written
