pub mod Statuses
pub mod Lines
pub mod Made
pub mod Keeping
pub mod Exactly
pub mod Words
pub mod Runs
