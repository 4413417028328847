pub mod Hashing
pub mod OpenUnits
pub mod Ranges
pub mod Readings
