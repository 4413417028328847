pub mod Asking
pub mod Recorded
pub mod Settling
pub mod Remembering
