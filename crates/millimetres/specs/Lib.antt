-- What the contracts of this crate cite.
pub mod Millimetres
pub mod Intervals
