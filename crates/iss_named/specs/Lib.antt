pub mod Known
pub mod Balances
pub mod Counters
pub mod Stood
pub mod Kept
pub mod Again
