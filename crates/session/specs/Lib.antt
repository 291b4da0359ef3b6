-- The definitions that the contracts cite.
pub mod Faults
pub mod State
pub mod Outcomes
pub mod Answers
pub mod Sessions
