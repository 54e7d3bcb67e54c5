pub mod Verdicts
pub mod Approved
