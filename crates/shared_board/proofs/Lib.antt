pub mod Steps
pub mod OneBoard
