pub mod Values
pub mod Amounts
pub mod Standing
