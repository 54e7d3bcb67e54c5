pub mod Messages
pub mod Exchanges
pub mod Gaps
pub mod Honest
pub mod Rules
pub mod Laws
pub mod Statements
pub mod Worked
