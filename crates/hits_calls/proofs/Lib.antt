-- The root of the crate's laws.
pub mod Text
pub mod Prepared
