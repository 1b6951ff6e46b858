-- Laws about this crate's loops. Assumes nothing.
-- a node and its parent, its number, and cells that are filled one by one
pub mod Parents
pub mod Numbering
pub mod Filling
-- the links and the walk
pub mod Linking
pub mod NextNode
pub mod Walking
-- the sums that tell PREORDER and SIZE
pub mod Summing
