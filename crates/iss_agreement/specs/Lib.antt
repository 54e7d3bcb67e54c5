pub mod Shown
pub mod Laws
pub mod Likeness
pub mod Stepped
pub mod Booked
