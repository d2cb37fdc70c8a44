pub mod ReadOutputs
