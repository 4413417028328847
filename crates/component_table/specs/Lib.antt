pub mod Tables
pub mod Begun
pub mod Landed
pub mod Crossings
pub mod Tails
pub mod Networks
pub mod Steps
