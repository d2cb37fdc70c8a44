pub mod Arriving
pub mod Collecting
pub mod Bringing
pub mod Giving
pub mod Tying
pub mod Meaning
pub mod Working
