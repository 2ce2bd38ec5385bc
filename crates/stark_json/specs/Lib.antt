pub mod Apart
pub mod Tokens
pub mod Elements
pub mod Names
