mod KeptKeys
pub mod ListEnds
pub mod Refusals
mod Rising
pub mod Transitions
pub mod WorldSteps
