pub mod NumberLemmas
pub mod OrderLemmas
pub mod LineLemmas
pub mod Single
