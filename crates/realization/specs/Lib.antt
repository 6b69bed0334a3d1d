-- The root of the crate's definitions.
pub mod Realization
pub mod Walk
