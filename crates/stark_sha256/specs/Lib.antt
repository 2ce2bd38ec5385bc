pub mod Lanes
pub mod Rounds
pub mod Pieces
pub mod Pairs
pub mod Texts
