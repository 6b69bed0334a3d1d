-- The root of the crate's definitions.
pub mod Entries
pub mod Checks
