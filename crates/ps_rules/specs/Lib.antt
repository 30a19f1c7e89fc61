pub mod Terms
pub mod Rules
pub mod Sights
pub mod Closing
pub mod Plans
