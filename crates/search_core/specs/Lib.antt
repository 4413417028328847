pub mod Answers
pub mod Graphs
pub mod KnownPlaces
