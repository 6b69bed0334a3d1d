-- The root of the crate's definitions.
pub mod Parts
pub mod Pushes
