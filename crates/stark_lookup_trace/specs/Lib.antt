pub mod AuxiliaryColumns
pub mod Tuples
