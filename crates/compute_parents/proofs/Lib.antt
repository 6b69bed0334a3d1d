-- The root of the crate's laws.
pub mod Links
pub mod LeftPart
pub mod Walk
pub mod Steps
