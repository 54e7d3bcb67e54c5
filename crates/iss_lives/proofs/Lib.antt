pub mod Lives
pub mod Clauses
