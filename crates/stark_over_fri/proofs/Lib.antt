pub mod TableSteps
pub mod BesideSteps
pub mod AcceptedSteps
mod DeclaredPaths
mod DeclaredRows
pub mod DeclaredSteps
