pub mod Failing
pub mod Replaying
pub mod Places
pub mod Stacks
