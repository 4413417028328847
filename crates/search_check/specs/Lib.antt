pub mod Sections
pub mod Texts
pub mod Accepted
