pub mod Gaps
pub mod Stored
pub mod Tries
