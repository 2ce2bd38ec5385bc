pub mod RowFacts
pub mod ReadBack
