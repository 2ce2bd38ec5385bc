pub mod InParts
pub mod Cut
pub mod PartsJson
pub mod Opened
pub mod RowFacts
pub mod InPartsFacts
