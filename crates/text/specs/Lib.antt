pub mod Bytes
pub mod Fields
pub mod Lines
pub mod Found
pub mod Puts
pub mod Writes
