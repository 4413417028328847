pub mod Numbers
pub mod Merges
pub mod FlightTables
