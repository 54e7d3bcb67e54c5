pub mod Kept
pub mod Cores
