-- The laws about the definitions of specs/, for the proofs of the functions and for the crates above to cite.
pub mod Decimals
pub mod Numerals
pub mod Putting
pub mod Writing
pub mod Printing
pub mod Finding
pub mod Ends
