-- The root of the crate's definitions.
pub mod ReferenceRun
pub mod Demands
pub mod CatalogueWalk
pub mod Withdrawing
pub mod FirstHit
