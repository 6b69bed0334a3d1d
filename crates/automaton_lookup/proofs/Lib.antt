-- The root of the crate's laws.
pub mod Words
pub mod ChildSearch
pub mod Places
pub mod Walk
