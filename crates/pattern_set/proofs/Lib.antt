-- The root of the crate's laws.
pub mod Words
pub mod Offsets
pub mod IsSet
pub mod Good
pub mod Without
pub mod MaySearch
