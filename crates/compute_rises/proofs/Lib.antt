-- The root of the crate's laws.
pub mod Clamp
pub mod Rises
