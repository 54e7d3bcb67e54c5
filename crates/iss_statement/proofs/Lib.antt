pub mod Rows
mod Sums
mod Order
mod Steps
mod LineTexts
pub mod Closing
mod DateLaws
mod Counts
