-- The root of the crate's laws.
pub mod Said
pub mod Next
pub mod Less
