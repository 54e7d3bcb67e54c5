pub mod Sayings
pub mod Rooms
pub mod Transcripts
pub mod Runs
