-- What a replay tells, and what is promised of it.
pub mod Calls
pub mod Examples
pub mod Promise
pub mod Runs
