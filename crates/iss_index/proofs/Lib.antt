pub mod Placed
pub mod Slots
pub mod Hashed
pub mod Grown
