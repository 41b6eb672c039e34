pub mod Limits
pub mod Noise
pub mod Fill
pub mod Same
