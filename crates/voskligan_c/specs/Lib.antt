pub mod Message
pub mod Calls
