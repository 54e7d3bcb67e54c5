pub mod Rooms
pub mod Committing
pub mod Behind
pub mod Writing
pub mod Catching
