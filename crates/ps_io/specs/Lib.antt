pub mod Counts
pub mod Hints
pub mod Memory
pub mod Standard
pub mod Streams
