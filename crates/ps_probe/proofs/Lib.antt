mod Counting
mod Tables
mod Scales
mod Marks
mod Restricted
mod Searches
pub mod Givings
mod Halves
pub mod Once
mod Shown
