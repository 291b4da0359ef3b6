-- Polls by their numbers.
pub mod Numbers
