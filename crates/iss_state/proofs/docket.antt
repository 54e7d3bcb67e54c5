pub mod Lists
pub mod Closing
pub mod Entering
pub mod Enters
pub mod Docketed
pub mod Abandoning
pub mod Counts
