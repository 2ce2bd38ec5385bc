pub mod Codes
pub mod StatementCodes
pub mod ApartSteps
mod RepeatSteps
