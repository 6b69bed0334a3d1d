-- The root of the crate's definitions.
pub mod Called
pub mod Prepared
