pub mod Counting
pub mod Doubling
