-- The root of the crate's laws.
pub mod Begun
pub mod Conditions
