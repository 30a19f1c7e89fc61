pub mod Phases
pub mod Adding
pub mod Placing
pub mod Weaving
pub mod Short
pub mod Seating
