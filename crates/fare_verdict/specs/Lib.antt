pub mod Stages
pub mod Findings
pub mod Told
pub mod FindingsText
pub mod Lines
pub mod Tickets
