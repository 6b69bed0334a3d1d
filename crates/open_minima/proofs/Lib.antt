-- The root of the crate's laws.
pub mod Ways
pub mod Pushing
