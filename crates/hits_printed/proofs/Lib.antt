-- The root of the crate's laws.
pub mod Sizes
pub mod Refusals
pub mod Searching
pub mod Theorem
