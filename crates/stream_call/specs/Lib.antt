-- The root of the crate's definitions.
pub mod Taken
pub mod Numbers
