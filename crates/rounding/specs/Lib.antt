pub mod Format
pub mod Exact
pub mod Rules
pub mod Rounding
pub mod Laws
pub mod Truncation
