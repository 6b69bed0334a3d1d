-- The root of the crate's laws.
pub mod Common
pub mod Insertion
pub mod Neighbours
pub mod Count
pub mod FirstWords
