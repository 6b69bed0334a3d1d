-- The root of the crate's laws.
pub mod Replacing
pub mod Removing
pub mod Sizes
pub mod Withdrawing
pub mod Entry
