pub mod Places
pub mod Passes
pub mod Fitting
pub mod DegreeLaw
pub mod WholeLaw
pub mod Sizes
pub mod Sections
