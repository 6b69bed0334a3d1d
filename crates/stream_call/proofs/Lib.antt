-- The root of the crate's laws.
pub mod Taking
pub mod Stepping
pub mod Leaving
