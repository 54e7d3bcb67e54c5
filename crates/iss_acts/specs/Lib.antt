pub mod Causes
pub mod Stages
pub mod Sources
pub mod Items
pub mod Posts
