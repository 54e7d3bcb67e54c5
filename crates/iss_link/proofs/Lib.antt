pub mod Listening
pub mod Causing
pub mod Worlds
