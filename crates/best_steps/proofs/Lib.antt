pub mod WordOrder
pub mod Pairs
pub mod Asks
pub mod Paths
pub mod Drawings
pub mod Orders
pub mod Transport
