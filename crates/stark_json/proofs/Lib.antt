pub mod Changed
pub mod ElementSteps
pub mod Kept
pub mod Parted
pub mod SoFar
pub mod Turns
