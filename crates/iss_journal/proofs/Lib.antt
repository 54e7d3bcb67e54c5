pub mod Readings
pub mod Records
pub mod Gates
mod Appends
pub mod Formats
mod Scans
pub mod Closings
pub mod ReadLemmas
mod Frames
