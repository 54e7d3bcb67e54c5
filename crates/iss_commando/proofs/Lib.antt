pub mod KeyOrder
pub mod TreeSums
pub mod Replaced
pub mod StandsAlike
