pub mod Inverses
pub mod Orders
pub mod Windows
pub mod Ends
pub mod MapLaws
pub mod InverseLaws
pub mod EndLaws
pub mod OrderLaws
