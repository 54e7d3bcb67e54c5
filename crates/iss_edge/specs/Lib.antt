pub mod World
pub mod Channels
pub mod Disk
pub mod Calls
pub mod Outer
pub mod Memory
pub mod Puts
pub mod Stretches
