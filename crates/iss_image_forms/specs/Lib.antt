pub mod Spans
pub mod Histories
