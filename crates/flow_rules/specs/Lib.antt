pub mod Exports
pub mod Laws
pub mod Needs
pub mod Soundness
pub mod Verdicts
pub mod WrongRules
