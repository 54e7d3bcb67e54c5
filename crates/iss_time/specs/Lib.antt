pub mod CivilMonths
