pub mod Recorders
pub mod Session
pub mod Worked
