-- Laws about this crate's calls, and what is shown of them. Assumes nothing.
pub mod Asking
pub mod Storing
pub mod Giving
pub mod Runs
pub mod Named
pub mod Granted
pub mod Demand3
pub mod RunsLent
pub mod RunsExist
pub mod SomeRuns
