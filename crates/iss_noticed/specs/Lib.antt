pub mod Addressed
pub mod GivenBack
pub mod Commitments
