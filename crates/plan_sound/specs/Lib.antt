pub mod Working
pub mod OperatorStreams
pub mod FlowRuns
