pub mod Overlapping
pub mod Faults
pub mod Terms
