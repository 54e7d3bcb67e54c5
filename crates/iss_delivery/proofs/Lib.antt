pub mod Lists
pub mod Sendable
pub mod ReadAsSent
pub mod Delivered
