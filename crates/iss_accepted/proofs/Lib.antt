pub mod Spans
pub mod Decided
pub mod Found
pub mod Steps
pub mod Added
mod Seen
pub mod Shortened
mod Changed
