pub mod OfferedFacts
pub mod ServedPaths
pub mod TakenKeys
pub mod SameKeys
pub mod KeyHomes
pub mod OneFlight
