-- sums, and the total of a part by those of its children
pub mod Adding
pub mod Weights
-- totals added up along a bottom-up order
pub mod Climbing
-- what the call gives
pub mod Giving
-- what is shown
pub mod Claims
