-- Lemmas of means.
pub mod Asking
pub mod Nearness
pub mod Sums
