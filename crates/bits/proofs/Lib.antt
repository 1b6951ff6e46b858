-- Laws of the definitions of specs/, for the functions of this crate and for other crates. Assumes nothing.
pub mod Log
pub mod Zeros
pub mod Ones
