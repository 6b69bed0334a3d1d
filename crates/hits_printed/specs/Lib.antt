-- The root of the crate's definitions.
pub mod Printed
pub mod Pieces
