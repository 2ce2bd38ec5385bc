pub mod Expressions
pub mod ShownNodes
pub mod NodeDegrees
pub mod Lines
pub mod Whole
pub mod Shown
