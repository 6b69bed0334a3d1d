-- The root of the crate's laws.
pub mod OpenDistances
pub mod OpenBits
pub mod NextLower
pub mod Values
