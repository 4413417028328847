pub mod Beginnings
pub mod AddingSteps
pub mod StoreSteps
