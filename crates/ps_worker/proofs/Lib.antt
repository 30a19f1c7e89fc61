pub mod Giving
pub mod StepLaws
pub mod ShiftLaws
