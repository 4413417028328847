pub mod DayLemmas
pub mod KindLemmas
pub mod MeetingLemmas
pub mod Neighbours
pub mod RangeLemmas
pub mod StopPlaces
pub mod Sums
pub mod WithinLimits
