pub mod KeyOrder
pub mod TreeSums
pub mod PostSums
pub mod Listed
