pub mod Names
pub mod Verdicts
pub mod Items
pub mod Replies
pub mod Lines
