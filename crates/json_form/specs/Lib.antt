pub mod Spelled
pub mod Members
pub mod Items
pub mod Fares
