pub mod Scaling
pub mod Nearness
pub mod Quotients
