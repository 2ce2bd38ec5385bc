pub mod Fold
pub mod FoldFacts
pub mod Laws
pub mod OneBeta
pub mod Reduce
pub mod ReduceFacts
pub mod Walk
pub mod WalkFacts
