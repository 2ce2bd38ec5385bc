pub mod PartSteps
pub mod KnownSteps
pub mod LookupTableSteps
