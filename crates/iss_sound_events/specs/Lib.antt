pub mod Named
pub mod Alone
pub mod Totals
pub mod Done
