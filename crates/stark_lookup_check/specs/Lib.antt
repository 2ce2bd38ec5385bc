pub mod Balance
pub mod Totals
