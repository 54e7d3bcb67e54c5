pub mod PostingLaws
pub mod AddingLaws
pub mod KeepingLaws
pub mod BalanceLaws
pub mod StepLaws
