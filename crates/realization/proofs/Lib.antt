-- The root of the crate's laws.
pub mod LeftTurns
pub mod Realizable
pub mod Walk
pub mod LeastRealization
pub mod Suffixes
