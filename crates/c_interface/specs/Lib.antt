-- What crosses to C and back.
pub mod Refusals
pub mod Numbers
pub mod Held
pub mod Calls
pub mod Fixed
