-- Digits, sums of words at their places, and the pair that a quotient asks for.
pub mod Digits
pub mod Spread
pub mod Asking
