pub mod Causes
pub mod Counting
pub mod Outcomes
pub mod Records
pub mod Worlds
