-- The root of the crate's laws.
pub mod Ring
pub mod Minima
pub mod Good
pub mod Push
pub mod Accepted
pub mod Feed
pub mod Recent
