-- The root of the crate's laws.
pub mod Ranks
pub mod Fingerprints
pub mod Sets
pub mod Repeats
pub mod Unions
pub mod Lookup
