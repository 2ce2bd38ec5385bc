pub mod PlaceSteps
pub mod Refusals
