pub mod Clock
pub mod Dates
pub mod Digits
pub mod Weekdays
