pub mod Check
pub mod Lend
pub mod Sections
