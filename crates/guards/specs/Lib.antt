-- The definitions that the contracts cite.
pub mod Questions
pub mod Views
pub mod Hosts
pub mod Listed
pub mod Laws
pub mod Counts
pub mod Runs
pub mod Writing
