pub mod Arguments
pub mod Items
pub mod Lines
pub mod Names
pub mod Orders
pub mod Reading
pub mod Stored
pub mod Words
