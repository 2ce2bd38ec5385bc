pub mod Telling
pub mod Statuses
