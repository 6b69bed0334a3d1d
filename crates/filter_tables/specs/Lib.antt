-- The root of the crate's definitions.
pub mod Tables
pub mod Steps
