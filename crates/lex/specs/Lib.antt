-- The definitions that the contracts cite.
pub mod Reads
pub mod Parts
pub mod Numbers
