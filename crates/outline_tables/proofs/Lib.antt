pub mod Putting
pub mod MergeFacts
pub mod StandFacts
pub mod InHand
pub mod NumberFacts
pub mod TableFacts
