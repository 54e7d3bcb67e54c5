pub mod Lists
pub mod Sums
pub mod Money
pub mod Rows
pub mod Costs
pub mod Accounts
pub mod Causes
pub mod Numbers
