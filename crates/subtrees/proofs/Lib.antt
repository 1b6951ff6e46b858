-- Laws about this crate's calls, and what is shown of them. Assumes nothing.
pub mod Locating
pub mod Claims
