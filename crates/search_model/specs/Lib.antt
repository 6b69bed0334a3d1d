-- The root of the crate's definitions.
pub mod Ring
pub mod Recent
pub mod Search
