pub mod Demands
pub mod Limits
pub mod Meeting
pub mod Permits
pub mod Ranges
