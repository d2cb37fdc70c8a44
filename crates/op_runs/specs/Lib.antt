pub mod KeyedStreams
pub mod Laws
