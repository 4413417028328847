pub mod Came
pub mod Judging
pub mod Lines
pub mod Logs
pub mod Served
pub mod Settled
pub mod Terms
pub mod Wants
