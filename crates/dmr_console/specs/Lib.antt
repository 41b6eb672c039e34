pub mod Limits
pub mod Lines
pub mod Steps
pub mod Words
pub mod Commands
pub mod Grammar
pub mod Texts
