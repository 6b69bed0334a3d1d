-- The root of the crate's laws.
pub mod Seek
pub mod ByList
pub mod HasTree
pub mod Structure
pub mod Injective
pub mod Matching
pub mod Window
pub mod TreeOf
pub mod Sizes
