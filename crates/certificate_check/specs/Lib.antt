pub mod Verdicts
pub mod Tables
pub mod Bounds
pub mod Fronts
pub mod Drawings
