pub mod Asks
pub mod EachLemmas
pub mod Judges
pub mod Names
pub mod Scripts
pub mod ServedLists
