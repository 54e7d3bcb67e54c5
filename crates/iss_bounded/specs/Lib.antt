pub mod Bounds
pub mod Many
