-- The root of the crate's definitions.
pub mod Made
pub mod Places
pub mod Reached
pub mod Reads
pub mod View
