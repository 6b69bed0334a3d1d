-- The root of the crate's laws.
pub mod Places
pub mod GroupHits
pub mod Lists
pub mod MarkedBlocks
pub mod Scan
pub mod HitsCounted
pub mod Written
