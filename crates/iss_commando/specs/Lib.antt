pub mod Days
pub mod Sums
pub mod Trees
pub mod Puts
pub mod Stands
pub mod Codes
