pub mod Archived
pub mod Statable
pub mod Postings
pub mod Archiving
pub mod Runs
pub mod Statement
pub mod Steps
