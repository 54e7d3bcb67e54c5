pub mod Holders
pub mod Replaced
