pub mod Ending
pub mod Obeying
pub mod Saying
pub mod Words
