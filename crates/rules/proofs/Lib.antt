-- Laws about this crate's tables and steps. Assumes nothing.
pub mod Cells
pub mod Toward
pub mod TourCells
pub mod TourBranches
pub mod Scanned
