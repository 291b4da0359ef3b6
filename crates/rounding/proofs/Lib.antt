pub mod Values
pub mod Places
pub mod RestKinds
pub mod Chosen
pub mod Faithful
pub mod Cuts
pub mod Truncations
