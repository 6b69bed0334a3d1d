-- The root of the crate's laws.
pub mod Items
pub mod Nothing
