pub mod Accounts
pub mod Told
