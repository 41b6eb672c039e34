pub mod Lines
pub mod Events
pub mod Recordable
pub mod Records
pub mod Restored
pub mod Drafts
