pub mod Openings
pub mod Tellings
pub mod Images
pub mod Refusals
pub mod Emits
