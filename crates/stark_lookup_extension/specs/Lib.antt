pub mod Written
pub mod WrittenEquations
pub mod Leaves
pub mod ExtensionFaults
pub mod ExtendedSizes
pub mod Interactions
pub mod WrittenGroups
pub mod ExtendedAir
