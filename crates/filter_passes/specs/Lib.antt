-- The root of the crate's definitions.
pub mod Passes
pub mod Counts
