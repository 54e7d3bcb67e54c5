pub mod Keys
pub mod Trees
pub mod Posts
pub mod Saldos
