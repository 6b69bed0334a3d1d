-- The root of the crate's definitions.
pub mod Cartesian
pub mod Windows
