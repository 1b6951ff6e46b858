pub mod Jumps
pub mod Tested
