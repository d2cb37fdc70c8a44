pub mod Kinds
pub mod Promise
pub mod Tallies
pub mod Fitting
pub mod Matched
