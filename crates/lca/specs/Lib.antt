pub mod Returned
pub mod Version
