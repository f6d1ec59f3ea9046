-- The definitions that the contracts of this crate cite.
pub mod Faults
pub mod Names
pub mod Bytes
pub mod Calls
pub mod Contents
pub mod Readers
pub mod Writing
