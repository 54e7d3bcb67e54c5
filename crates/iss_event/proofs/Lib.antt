pub mod Given
pub mod GivenMoney
pub mod LeastLine
pub mod Lines
pub mod LinesInForm
pub mod ClientLines
pub mod ReportTexts
mod OpenedLines
pub mod PlainLines
