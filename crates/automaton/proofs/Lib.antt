-- The root of the crate's laws.
pub mod EightWords
pub mod Front
pub mod Records
pub mod Walk
pub mod Room
pub mod Entries
