pub mod ConstraintPolynomial
pub mod DegreeBound
pub mod BadValues
pub mod ErrorBound
pub mod Openings
pub mod SameLeaves
pub mod Params
