pub mod Turns
pub mod Calls
pub mod Settling
pub mod Comparing
