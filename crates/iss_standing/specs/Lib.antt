pub mod Standing
pub mod Rooms
pub mod Writes
pub mod Counts
pub mod Goings
