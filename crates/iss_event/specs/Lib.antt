pub mod FormLines
pub mod Inputs
pub mod Kinds
pub mod Readings
pub mod Replies
pub mod ReportLines
pub mod PlainLines
