-- The root of the crate's laws.
pub mod Refusals
pub mod Searchable
pub mod Stream
pub mod Filter
pub mod NextList
pub mod Sets
