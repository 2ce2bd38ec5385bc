pub mod SmallParams
pub mod Spelled
