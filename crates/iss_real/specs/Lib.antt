pub mod Clocks
pub mod Numbers
