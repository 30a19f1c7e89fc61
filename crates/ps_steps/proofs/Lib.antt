pub mod Deciding
pub mod Following
pub mod Forms
pub mod Injective
pub mod Lacking
pub mod Numbers
pub mod Ordering
pub mod Written
