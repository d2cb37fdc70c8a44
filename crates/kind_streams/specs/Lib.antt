pub mod Collecting
pub mod OfKinds
pub mod Making
