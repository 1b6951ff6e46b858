-- Laws about the run. Assumes nothing.
pub mod Example
pub mod Carriers
pub mod Lengths
pub mod Bounds
pub mod Printed
pub mod Sizes
pub mod Entering
pub mod Ending
pub mod Answering
pub mod Asking
pub mod Testing
