-- Laws about this crate's loops. Assumes nothing.
-- the steps that tell LEVEL and ASCENDANT
pub mod Stepping
-- the columns made from those before them
pub mod Labelled
pub mod InOrder
pub mod Tops
pub mod Smearing
