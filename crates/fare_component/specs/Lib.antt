pub mod Keys
pub mod Homes
pub mod Offers
