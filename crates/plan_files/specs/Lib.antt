pub mod PlanFiles
pub mod FlowPlays
