-- What a mean is, and what it asks.
pub mod Defined
