pub mod Merchants
