pub mod Chains
pub mod Combined
pub mod Finished
pub mod Worked
