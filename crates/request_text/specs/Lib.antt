pub mod Form
pub mod Limits
pub mod Steps
pub mod Reading
pub mod Text
