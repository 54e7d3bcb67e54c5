pub mod Sums
pub mod Purchases
pub mod Steps
