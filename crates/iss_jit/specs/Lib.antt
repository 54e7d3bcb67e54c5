pub mod Echoes
pub mod Members
pub mod Outcomes
pub mod Plain
