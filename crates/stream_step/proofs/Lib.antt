-- The root of the crate's laws.
pub mod PlaceWords
pub mod Listed
pub mod Writing
