pub mod Linearity
pub mod Spans
pub mod Congruence
pub mod Opposites
pub mod Undoing
pub mod Cancelling
pub mod Ends
pub mod Exchanging
