pub mod Itemising
pub mod Reducing
pub mod Denoting
pub mod Replaying
pub mod Filling
pub mod FillsOnce
pub mod Justifying
