-- The root of the crate's laws.
pub mod Failures
pub mod Parents
pub mod Links
pub mod Root
pub mod Records
