pub mod Firsts
pub mod FoundPlaces
pub mod Lookups
pub mod Keeping
pub mod Changes
