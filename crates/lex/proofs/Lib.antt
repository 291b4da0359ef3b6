-- Lemmas of this crate, which the crates above may cite.
pub mod Cuts
pub mod Decimals
pub mod Places
