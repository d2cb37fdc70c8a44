pub mod OptionText
pub mod LinkText
pub mod FlowText
