pub mod Makings
