pub mod Years
pub mod Months
pub mod MonthWindows
