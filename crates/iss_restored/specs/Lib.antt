pub mod Made
pub mod Again
