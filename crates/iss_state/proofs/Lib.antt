pub mod effects
pub mod invariants
pub mod docket
pub mod calls
pub mod held
