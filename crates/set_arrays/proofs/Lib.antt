-- The root of the crate's laws.
pub mod SetRules
pub mod Laws
pub mod Appending
pub mod Entries
