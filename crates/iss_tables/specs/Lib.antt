pub mod Tables
pub mod Texts
pub mod Rows
pub mod Steps
pub mod Queries
pub mod Calls
pub mod Shapes
pub mod Causes
