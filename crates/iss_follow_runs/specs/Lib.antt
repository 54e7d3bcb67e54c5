pub mod Statuses
pub mod Moments
pub mod Sendings
pub mod Holdings
pub mod Causes
pub mod Refusals
