pub mod Lines
pub mod CertText
pub mod RowTexts
pub mod LineReading
pub mod Unread
pub mod Faults
pub mod Readings
