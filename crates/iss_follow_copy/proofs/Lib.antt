pub mod Copies
pub mod Exits
pub mod Tails
