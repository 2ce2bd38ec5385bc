pub mod Columns
pub mod Digits
pub mod Machine
pub mod Parts
pub mod Program
