pub mod Filings
pub mod Histories
pub mod Steps
pub mod Filed
pub mod Growing
pub mod Published
pub mod Seen
pub mod Writing
