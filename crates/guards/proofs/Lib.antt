-- Lemmas over plain lists and numbers.
pub mod Found
pub mod Pairs
pub mod Reading
pub mod Listing
pub mod Asking
pub mod Putting
pub mod Examples
