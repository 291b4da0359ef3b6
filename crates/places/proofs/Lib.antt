-- Lemmas of places: digits, words at their places, what a number lacks of a power of two, leading digits, and the pair.
pub mod Binary
pub mod Spreading
mod Lacking
mod Reaching
pub mod Asked
