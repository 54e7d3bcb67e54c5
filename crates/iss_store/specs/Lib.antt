pub mod Values
pub mod Planning
pub mod Committing
pub mod Putting
pub mod Saying
pub mod Waiting
pub mod Routes
pub mod Serving
