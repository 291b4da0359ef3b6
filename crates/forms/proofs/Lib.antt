-- Lemmas of this crate's own.
mod Once
mod Repeats
mod Texts
