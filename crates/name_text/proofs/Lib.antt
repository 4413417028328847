pub mod NameLemmas
pub mod TextLemmas
pub mod PairLemmas
pub mod SeatLemmas
