-- The root of the crate's laws.
pub mod Nodes
pub mod Children
pub mod Order
pub mod Lengths
pub mod Chains
pub mod Common
pub mod Advance
pub mod Steps
