pub mod MakingSteps
pub mod JudgingSteps
pub mod OwnedSteps
pub mod NumbersSteps
pub mod ReadSteps
