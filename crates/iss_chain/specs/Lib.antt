pub mod Values
pub mod Calls
pub mod Entering
pub mod Rows
pub mod Among
pub mod OfTheRules
pub mod Carrying
pub mod Restoring
