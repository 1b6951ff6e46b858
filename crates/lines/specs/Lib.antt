pub mod Forms
pub mod Read
pub mod Machine
pub mod Gives
