pub mod Members
pub mod Parts
pub mod Rules
pub mod Again
pub mod Written
