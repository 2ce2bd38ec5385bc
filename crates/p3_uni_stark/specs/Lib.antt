pub mod Completeness
pub mod Checked
