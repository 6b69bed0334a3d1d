-- The root of the crate's definitions.
pub mod Matching
pub mod HitList
pub mod Withdrawn
pub mod HeadLengths
pub mod HitsIn
pub mod Rise
