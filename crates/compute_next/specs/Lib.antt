-- The root of the crate's definitions.
pub mod Raised
pub mod Change
