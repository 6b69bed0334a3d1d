-- The root of the crate's laws.
pub mod Rolling
pub mod Samples
pub mod Lookups
pub mod RankSets
pub mod Windows
pub mod Groups
