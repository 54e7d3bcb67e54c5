pub mod Heads
pub mod Lengths
pub mod Requests
pub mod Answers
pub mod Messages
pub mod Spans
pub mod Heard
pub mod Worked
