-- What the contracts of this crate cite.
pub mod Labels
pub mod Masks
pub mod Digits
