pub mod Patterns
pub mod Tallies
pub mod Searching
pub mod Ending
pub mod Giving
