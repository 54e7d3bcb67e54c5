pub mod Upheld
pub mod Judged
pub mod Arms
pub mod OnBook
pub mod Bounds
pub mod NoticeAnswers
pub mod ControlReasons
pub mod Merging
pub mod DueNames
pub mod Stepped
pub mod Clearings
pub mod Endings
pub mod SettingsAgain
pub mod CoreAgain
mod ShownKeys
mod ShownParts
