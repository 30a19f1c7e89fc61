pub mod Holding
pub mod Pieces
pub mod Spelled
pub mod Steps
pub mod Texts
