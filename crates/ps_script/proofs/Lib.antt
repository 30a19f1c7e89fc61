pub mod LineLemmas
pub mod NameLemmas
pub mod OrderLemmas
pub mod ReadLaws
pub mod WordLemmas
