pub mod Attendances
pub mod Reading
pub mod Runs
pub mod Held
pub mod Causes
