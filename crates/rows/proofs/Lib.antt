-- Laws about this crate's loops. Assumes nothing.
pub mod Stores
pub mod Doubled
pub mod Visited
pub mod FirstRow
pub mod Heights
pub mod Halves
