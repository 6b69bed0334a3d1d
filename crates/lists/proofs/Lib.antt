-- The root of the crate's laws.
pub mod Prelude
pub mod Tests
pub mod Order
pub mod Same
pub mod Parts
pub mod Tables
pub mod Members
pub mod Rows
pub mod Places
pub mod LastBelow
pub mod Select
pub mod SelectTable
pub mod Counting
pub mod Rising
pub mod Powers
pub mod Moving
pub mod Before
