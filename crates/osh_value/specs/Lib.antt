pub mod Values
pub mod ValueGrammar
pub mod Kinds
