pub mod Counts
pub mod Streams
pub mod Memory
pub mod Failing
pub mod Standard
