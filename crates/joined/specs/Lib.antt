-- What the contracts of this crate cite.
pub mod Joined
pub mod Sides
