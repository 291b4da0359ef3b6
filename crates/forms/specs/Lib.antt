-- The definitions that the contracts cite.
pub mod Calculations
pub mod Commands
pub mod Forms
pub mod Polls
pub mod Setups
