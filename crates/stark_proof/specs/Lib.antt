pub mod ProofView
pub mod ProofJson
