pub mod Burst
pub mod Functions
