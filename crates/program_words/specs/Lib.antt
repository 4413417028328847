pub mod Parser
pub mod Texts
pub mod Numbers
pub mod Lines
