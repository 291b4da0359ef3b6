-- What an engine promises.
pub mod Band
pub mod Digits
pub mod Meaning
