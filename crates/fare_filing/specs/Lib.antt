pub mod Actions
pub mod Reading
pub mod Text
pub mod Compact
