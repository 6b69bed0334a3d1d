-- The root of the crate's laws.
pub mod HitOrder
pub mod Fingerprints
pub mod Checks
pub mod Candidates
pub mod Decided
