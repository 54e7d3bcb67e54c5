pub mod Controls
pub mod Taking
pub mod TakingRecords
pub mod Readers
pub mod Meanings
pub mod Places
