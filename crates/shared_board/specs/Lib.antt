pub mod Standing
pub mod Holding
pub mod Naming
pub mod Searched
