pub mod AnySamples
pub mod Samples
pub mod SmallSamples
