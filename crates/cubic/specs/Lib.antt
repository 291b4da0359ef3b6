-- Reciprocals and how near they are.
pub mod Polynomial
pub mod Reciprocal
