mod Alone
pub mod AskedKnown
pub mod Committed
mod Entered
mod Few
mod Opened
mod Together
pub mod Started
pub mod Told
pub mod WellDecided
pub mod Grouping
pub mod Apart
pub mod KeyOrder
pub mod Passing
mod StoodOrder
mod StoodSums
mod NoticeRules
