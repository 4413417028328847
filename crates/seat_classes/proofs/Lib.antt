pub mod NameOrder
pub mod SeatKeys
pub mod HeldLemmas
pub mod GivenLemmas
pub mod Zeros
