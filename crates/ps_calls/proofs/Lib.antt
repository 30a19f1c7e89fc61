pub mod Views
pub mod Singles
pub mod Stages
pub mod Endings
pub mod Calls
