pub mod Events
pub mod StandIns
pub mod Counters
