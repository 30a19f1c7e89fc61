pub mod Polys
pub mod Merging
pub mod Flips
