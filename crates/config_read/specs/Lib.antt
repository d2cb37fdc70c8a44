pub mod Pools
pub mod Spelled
pub mod Reading
pub mod First
pub mod ConfigLaws
