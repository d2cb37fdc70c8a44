pub mod Texts
pub mod Scores
pub mod VerdictText
pub mod Seating
