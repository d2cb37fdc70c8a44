pub mod Built
pub mod Steps
pub mod Reports
pub mod FlowFiles
pub mod Ends
pub mod Leaves
