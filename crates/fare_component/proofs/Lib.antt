pub mod Building
pub mod Departures
pub mod Ends
pub mod Listed
pub mod OneList
pub mod Prices
pub mod Steps
pub mod Weighing
