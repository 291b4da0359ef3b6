pub mod Classes
pub mod Defined
