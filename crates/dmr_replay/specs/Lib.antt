pub mod Inputs
pub mod Script
pub mod Replay
