pub mod Lowest
pub mod Fractions
pub mod Pairs
pub mod Angles
pub mod Trees
pub mod Values
pub mod Machine
