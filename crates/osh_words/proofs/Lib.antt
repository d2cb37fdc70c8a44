pub mod Single
pub mod Complete
pub mod Sound
mod Worked
