-- Laws about this crate's loops. Assumes nothing.
pub mod Jumping
pub mod Surveying
-- sheets with one root
pub mod Losing
