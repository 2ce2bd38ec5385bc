pub mod CuttingSteps
pub mod CutSteps
pub mod PlaceSteps
pub mod EntrySteps
pub mod RowSteps
pub mod FitSteps
pub mod NumberSteps
pub mod RowsInTurn
