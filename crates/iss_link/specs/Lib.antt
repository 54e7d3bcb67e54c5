pub mod Values
pub mod Kept
pub mod Hearing
pub mod Causes
pub mod Worlds
