pub mod Found
pub mod Homes
