pub mod ClearCalls
pub mod ClearClaims
pub mod ClearFacts
pub mod ClearJson
pub mod ClearScheme
pub mod Masks
pub mod Stops
