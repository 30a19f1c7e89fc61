pub mod Once
pub mod Runs
pub mod Sound
pub mod Leading
pub mod Stacking
