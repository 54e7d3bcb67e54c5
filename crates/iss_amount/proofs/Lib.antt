pub mod Readings
pub mod PaddedDigits
pub mod Bounds
pub mod RoundTrips
