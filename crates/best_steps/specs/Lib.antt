pub mod Runs
pub mod Waiting
pub mod Heaped
pub mod Answers
pub mod Searches
