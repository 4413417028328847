pub mod Makers
pub mod Cases
pub mod Rules
pub mod Ranges
pub mod Journeys
