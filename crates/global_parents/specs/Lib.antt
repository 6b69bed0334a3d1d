-- The root of the crate's definitions.
pub mod GlobalParents
pub mod Parents
pub mod Passes
