pub mod AnyCollector
pub mod AnyOperator
pub mod Results
pub mod RowOperator
