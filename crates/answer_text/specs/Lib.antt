pub mod Lines
pub mod Answer
pub mod Said
