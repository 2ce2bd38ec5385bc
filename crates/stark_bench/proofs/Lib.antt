pub mod PointLists
pub mod SelectorLists
pub mod TurnedLists
pub mod HalfLists
