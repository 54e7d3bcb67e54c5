pub mod Devices
mod Seats
pub mod Moments
pub mod Firmly
pub mod Written
pub mod Refusals
pub mod Lives
