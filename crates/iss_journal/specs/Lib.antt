pub mod Place
pub mod Region
pub mod Header
pub mod Formatting
pub mod Answers
pub mod Append
pub mod Opening
pub mod Reading
