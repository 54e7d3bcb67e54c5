pub mod PlansMade
pub mod Commits
pub mod Pasts
pub mod Moments
pub mod Beside
pub mod Writes
pub mod Firsts
pub mod Exits
