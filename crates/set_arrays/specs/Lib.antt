-- The root of the crate's definitions.
pub mod Rules
pub mod Moved
