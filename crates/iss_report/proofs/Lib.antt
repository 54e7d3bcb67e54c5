pub mod Accounts
pub mod Reporting
