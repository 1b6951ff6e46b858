-- Laws about this crate's loops, and what is shown of its calls. Assumes nothing.
pub mod Sections
pub mod Powers
pub mod Rowwise
pub mod Columnwise
pub mod TableRows
pub mod Lending
pub mod Staleness
pub mod Claims
