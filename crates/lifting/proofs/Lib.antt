-- The laws of this crate.
pub mod Powers
pub mod Raising
pub mod Meeting
