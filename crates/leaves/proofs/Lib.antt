-- counting who names whom, the parts that none names, and taking them off
pub mod Naming
pub mod Taken
pub mod Waits
-- what the order is at the end
pub mod Ending
