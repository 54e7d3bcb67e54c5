pub mod Passing
pub mod Causes
pub mod ByKind
pub mod Walk
pub mod Stepping
pub mod Posts
pub mod Begun
