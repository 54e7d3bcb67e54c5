pub mod Feeding
pub mod Closes
pub mod Texts
