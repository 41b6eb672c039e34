pub mod Limits
pub mod Radios
pub mod Least
