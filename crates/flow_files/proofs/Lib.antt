pub mod Examples
pub mod FaultOrder
pub mod FewLines
pub mod Growing
pub mod OneList
pub mod Rows
pub mod Underway
