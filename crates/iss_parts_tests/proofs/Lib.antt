pub mod First
pub mod Small
pub mod Uncounted
