-- Lemmas on what calls accept.
pub mod Known
pub mod Patterns
pub mod SheetKept
pub mod PlacesKept
pub mod TreesKept
pub mod Judgeable
pub mod Faithfulness
