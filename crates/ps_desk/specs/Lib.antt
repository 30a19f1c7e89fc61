pub mod Views
pub mod Rule
pub mod Steps
pub mod Resting
pub mod Seats
pub mod Counting
