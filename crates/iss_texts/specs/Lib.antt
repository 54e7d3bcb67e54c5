pub mod TextRows
pub mod Sending
