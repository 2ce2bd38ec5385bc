pub mod Fields
pub mod Parameters
pub mod Parts
pub mod PathJson
pub mod Paths
pub mod ProofJson
