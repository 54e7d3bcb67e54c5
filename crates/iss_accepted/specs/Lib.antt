pub mod Values
pub mod Standing
pub mod Kept
pub mod Short
