pub mod Runs
pub mod Refusals
pub mod Moments
pub mod Writes
pub mod Lives
