pub mod Images
pub mod Lookups
pub mod TakingEvents
pub mod Forms
pub mod States
