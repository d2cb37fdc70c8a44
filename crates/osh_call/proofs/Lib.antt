pub mod BuiltFlows
pub mod DefaultNodes
pub mod VerdictsOf
pub mod Serving
pub mod Fronts
