pub mod CenturyLemmas
pub mod ClockLemmas
pub mod DigitLemmas
pub mod TextLemmas
