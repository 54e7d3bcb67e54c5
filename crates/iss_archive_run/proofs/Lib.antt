pub mod WordLaws
pub mod Mades
pub mod Readings
pub mod Unopened
pub mod Exits
pub mod Exact
pub mod Owns
