pub mod Adding
pub mod Values
pub mod Substitution
pub mod Outputs
pub mod JoinLaws
pub mod StepLaws
pub mod LeafLaws
pub mod OverlapLaws
