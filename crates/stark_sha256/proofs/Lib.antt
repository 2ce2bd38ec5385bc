pub mod WordFacts
pub mod LaneFacts
pub mod TextFacts
pub mod PairFacts
