pub mod Folded
pub mod Folding
pub mod Sizing
pub mod ConstraintBound
pub mod SizingLaw
pub mod Config
