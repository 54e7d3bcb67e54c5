pub mod InOrder
pub mod Numbered
pub mod AskedKeys
pub mod DueOrder
pub mod TxnOrder
pub mod ByNumber
pub mod Named
pub mod Asking
pub mod Closing
pub mod Found
mod Marks
