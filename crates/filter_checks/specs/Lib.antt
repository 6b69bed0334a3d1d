-- The root of the crate's definitions.
pub mod Equal
pub mod Comparisons
pub mod Groups
pub mod Sides
