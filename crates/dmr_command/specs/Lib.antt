pub mod Words
pub mod Listening
pub mod Statuses
