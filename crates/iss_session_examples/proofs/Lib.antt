pub mod Hopeless
pub mod ClientLines
