-- The root of the crate's laws.
pub mod Carry
pub mod Farther
pub mod Replaced
