pub mod Beside
pub mod Turns
pub mod Standings
pub mod Makings
pub mod Findings
pub mod FoundHalves
pub mod Openings
pub mod TurnedAppends
