-- What the contracts of this crate cite.
pub mod Measure
pub mod Asks
