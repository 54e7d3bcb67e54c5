mod Following
pub mod Counting
