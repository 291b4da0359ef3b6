-- Lemmas of the replay.
pub mod Tellings
pub mod Promises
pub mod Filling
pub mod Writing
