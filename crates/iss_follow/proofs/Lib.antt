mod Numbers
pub mod Statuses
