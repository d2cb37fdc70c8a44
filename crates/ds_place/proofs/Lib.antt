pub mod Hashes
pub mod PlaceExamples
