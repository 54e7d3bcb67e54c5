pub mod TokenTexts
pub mod TokenOrder
pub mod Names
pub mod KeptSums
pub mod Lists
pub mod Accounts
pub mod Copies
