pub mod Firsts
pub mod Held
pub mod Keys
pub mod Lists
pub mod Making
pub mod Places
