pub mod Quadratics
pub mod Laws
pub mod Circuits
