pub mod Grammar
pub mod Sorts
pub mod Phrases
pub mod Numbers
pub mod Formulas
pub mod Statements
pub mod Places
