pub mod ConstraintSteps
pub mod ConstraintDegrees
pub mod BadValueSteps
pub mod Counting
pub mod Fitting
pub mod BoundSteps
pub mod ErrorBoundSteps
