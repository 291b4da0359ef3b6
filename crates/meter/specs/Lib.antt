pub mod Faults
pub mod Addresses
pub mod Attempts
pub mod Model
pub mod Meters
