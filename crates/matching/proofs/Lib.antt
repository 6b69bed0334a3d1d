-- The root of the crate's laws.
pub mod Trees
pub mod Sizes
pub mod HitsIff
pub mod HitsOrder
pub mod Heads
pub mod HitWords
pub mod Numbers
pub mod Withdrawn
pub mod HitsIn
pub mod Rise
