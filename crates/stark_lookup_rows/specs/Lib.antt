pub mod Places
pub mod Cutting
pub mod Cut
pub mod RowEntries
