pub mod Print
pub mod Run
pub mod Gives
pub mod Whole
