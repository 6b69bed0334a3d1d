-- The root of the crate's definitions.
pub mod Input
pub mod Read
pub mod Steps
