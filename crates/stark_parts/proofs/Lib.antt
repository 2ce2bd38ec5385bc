pub mod Windows
pub mod SizingSteps
pub mod SizingRows
