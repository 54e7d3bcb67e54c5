pub mod Causes
pub mod Held
pub mod Requests
pub mod Judged
pub mod Closings
pub mod Goings
pub mod Runs
pub mod ServeRuns
