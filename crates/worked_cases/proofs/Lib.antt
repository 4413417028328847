pub mod Tickets
pub mod Pairs
pub mod Trips
pub mod Others
pub mod Boundaries
pub mod Hops
pub mod Within
