pub mod Asked
pub mod Replies
pub mod Runs
pub mod Holding
pub mod Held
pub mod Told
pub mod Made
pub mod Questions
