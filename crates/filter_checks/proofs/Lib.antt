-- The root of the crate's laws.
pub mod EqualRanks
pub mod Words
pub mod Passing
pub mod Places
pub mod Grouping
