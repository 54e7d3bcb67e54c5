pub mod Events
pub mod Txns
pub mod Again
pub mod Notices
pub mod WellFormed
pub mod Keeping
