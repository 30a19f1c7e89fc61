pub mod Sets
pub mod Lists
pub mod Words
pub mod Truth
pub mod Orders
pub mod Names
pub mod Keys
