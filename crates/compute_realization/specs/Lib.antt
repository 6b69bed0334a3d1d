-- The root of the crate's definitions.
pub mod OpenDistances
pub mod NextLower
