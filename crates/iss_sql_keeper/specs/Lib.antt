pub mod Numbered
pub mod Decoded
pub mod Given
pub mod Shown
pub mod Standing
pub mod Telling
pub mod Opened
pub mod Refused
