pub mod Bodies
pub mod Lines
pub mod Recorded
pub mod Replaying
pub mod Replies
pub mod Serves
