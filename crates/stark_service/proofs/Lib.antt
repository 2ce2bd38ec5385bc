pub mod Accepting
pub mod Configured
pub mod DescriptionSteps
pub mod FoundRows
mod HeightSteps
pub mod FriSound
pub mod OneKey
pub mod ReadSteps
pub mod SchemeDepths
pub mod SchemeFloats
pub mod SchemeSteps
pub mod SecuritySteps
pub mod ShowSteps
pub mod StatementSteps
pub mod StatementsSound
mod FittingRows
pub mod FloorSteps
pub mod TraceTasks
pub mod UnreadFindings
pub mod UnreadRows
