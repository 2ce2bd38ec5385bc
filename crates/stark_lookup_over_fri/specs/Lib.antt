pub mod PlacesInParts
pub mod LookupTables
