pub mod Calendar
pub mod Canonical
pub mod Kinds
pub mod Laws
pub mod Names
pub mod Spellings
pub mod Values
