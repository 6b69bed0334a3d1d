-- The root of the crate's definitions.
pub mod Looks
pub mod Groups
pub mod Patterns
