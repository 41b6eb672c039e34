pub mod Limits
pub mod Slots
pub mod Free
pub mod Grants
pub mod Marks
pub mod Kept
pub mod Same
