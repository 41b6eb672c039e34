pub mod Bptc
pub mod Mending
pub mod Lines
pub mod Functions
pub mod Sums
pub mod Groups
