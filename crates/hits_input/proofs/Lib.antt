-- The root of the crate's laws.
pub mod Cutting
pub mod Numbers
pub mod Lines
pub mod Inputs
pub mod Fits
