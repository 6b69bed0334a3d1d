-- The root of the crate's laws.
pub mod Prefix
pub mod Parts
pub mod Parents
pub mod Comparison
pub mod Passes
