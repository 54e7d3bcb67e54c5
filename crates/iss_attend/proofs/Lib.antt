pub mod Going
pub mod Waiting
pub mod Requests
pub mod Taking
pub mod Responses
pub mod Ending
pub mod Causing
