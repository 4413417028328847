pub mod TurnLemmas
pub mod WindowLemmas
pub mod TextLemmas
pub mod AgainLemmas
