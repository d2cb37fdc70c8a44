pub mod Chaining
pub mod Combining
pub mod Faulting
pub mod Finishing
pub mod InTurn
pub mod Mixing
pub mod Parting
