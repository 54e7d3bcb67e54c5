mod CountedAgain
pub mod Regrouped
pub mod TxnSumsAgain
mod WithinAgain
pub mod CoresAgain
mod Pushed
mod OriginsRise
mod RestoredAgain
mod RestorableAgain
mod BalancesSet
mod MoneyAgain
mod AtOnce
