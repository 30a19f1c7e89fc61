pub mod Bools
pub mod Merges
mod Flips
pub mod Unique
pub mod Variables
pub mod Values
pub mod Products
pub mod Cancelling
pub mod Replacing
pub mod Laws
