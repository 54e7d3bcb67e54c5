pub mod Faulting
pub mod Writing
