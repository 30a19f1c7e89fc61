pub mod Seated
pub mod Served
pub mod Worked
pub mod Lent
pub mod Runs
