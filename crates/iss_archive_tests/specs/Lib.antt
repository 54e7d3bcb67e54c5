pub mod Next
pub mod Unread
