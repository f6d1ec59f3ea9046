-- Lemmas of this crate.
pub mod ByteNumbers
pub mod Walking
pub mod Finding
pub mod Opening
pub mod FewCalls
pub mod Lending
pub mod RoundTrip
