pub mod Places
pub mod Hashing
pub mod Grown
