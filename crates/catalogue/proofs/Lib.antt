-- The root of the crate's laws.
pub mod Lists
pub mod Next
pub mod Walking
