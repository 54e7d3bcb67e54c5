pub mod Boxes
pub mod PendingNotices
pub mod Restoring
