pub mod Joins
pub mod Writings
