-- Lemmas of the console.
pub mod Fronts
