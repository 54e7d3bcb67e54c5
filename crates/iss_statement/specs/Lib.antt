pub mod Openings
pub mod Dates
pub mod Words
pub mod Covered
