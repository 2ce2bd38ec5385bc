pub mod ConjecturedBits
pub mod FieldBits
pub mod FriErrors
pub mod ListedBits
pub mod ProvedBits
pub mod Regime
