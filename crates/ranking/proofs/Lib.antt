-- The root of the crate's laws.
pub mod Arithmetic
pub mod Rank
pub mod IsRank
