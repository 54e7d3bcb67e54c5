pub mod Pending
pub mod Kept
