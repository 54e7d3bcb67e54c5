pub mod Says
pub mod Lives
pub mod Clauses
