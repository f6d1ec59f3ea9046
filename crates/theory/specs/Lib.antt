-- The theory of the judge, in the order of the argument: definitions, then the statements that the contracts name.
pub mod Runs
pub mod Inhabited
pub mod Knowledge
pub mod Explore
pub mod Theorems
pub mod ProperRuns
pub mod Verdicts
pub mod Settle
pub mod Left
pub mod Quick
pub mod Bridges
pub mod Following
pub mod RowLaws
pub mod RowNames
