pub mod Reaching
pub mod Following
pub mod Becoming
pub mod Listed
pub mod Meeting
