pub mod CompletenessVerdict
pub mod CheckedSteps
pub mod SizedDegrees
