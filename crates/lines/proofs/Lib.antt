-- Laws about the forms, and about the lines that are taken. Assumes nothing.
pub mod Legible
pub mod ReadingSteps
pub mod Listing
pub mod NextLine
pub mod Taking
pub mod Opening
