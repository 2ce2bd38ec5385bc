pub mod PowerCounts
pub mod LaneRows
pub mod PackedRows
pub mod PointSteps
