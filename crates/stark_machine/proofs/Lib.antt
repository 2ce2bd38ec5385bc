pub mod Filling
pub mod Loops
