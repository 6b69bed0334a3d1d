-- The root of the crate's laws.
pub mod Digits
pub mod Laws
pub mod Shifts
