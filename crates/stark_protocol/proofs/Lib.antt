pub mod SetUpSteps
pub mod Carried
pub mod LagrangeFactors
pub mod CycleWeights
pub mod WeightedSums
