pub mod Keeping
pub mod Notes
pub mod SameLegs
pub mod SameRows
pub mod Filling
