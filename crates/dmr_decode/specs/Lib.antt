pub mod Desk
pub mod Verdicts
