pub mod Causes
pub mod GraphRows
pub mod Places
pub mod RunTickets
