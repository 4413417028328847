pub mod Coding
pub mod Tickets
