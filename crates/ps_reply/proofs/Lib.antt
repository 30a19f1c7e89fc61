pub mod Inputs
pub mod Derivations
pub mod Phases
