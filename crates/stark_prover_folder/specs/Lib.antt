pub mod PackedFacts
pub mod PackedSums
pub mod Finalized
