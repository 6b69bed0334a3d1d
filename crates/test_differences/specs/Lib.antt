-- The root of the crate's definitions.
pub mod Difference
pub mod Expect
