pub mod FinalizedSteps
pub mod PairSteps
