pub mod CountSteps
pub mod ErrorSteps
pub mod Powers
pub mod Saturation
