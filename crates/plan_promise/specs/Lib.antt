pub mod KindStreams
pub mod Promised
