-- The root of the crate's laws.
pub mod Shared
pub mod Intervals
pub mod Sizes
pub mod Rows
