mod TableSteps
pub mod Readings
pub mod Coordinates
pub mod Places
pub mod Sums
pub mod InterpolationSteps
mod FoldingSteps
pub mod LaneSteps
pub mod CombinationSteps
pub mod CellSteps
pub mod InverseSteps
pub mod InOrder
pub mod Loops
