-- FoldedPlaces: AreFoldingPowers, powers_at_places, embedded, embedded_value, summed_coordinates, folded_places. FoldedLanes: AreFoldedLanes, folded_lane.
-- PointwiseQuotient: RowsOnCoset, pointwise_quotient, ArePointwiseQuotients, HasShape, matrix_or_empty, rows_of_matrices. QuotientOfColumns:
-- AreValuesOfColumns, next_point_is, quotient_of_columns, embedded_rows. EmbeddedPoint: embedded_inverse, quotient_from_base.
-- PointRows: PointRow, IsLaneRow, folded_over, packed_environment. OnCoset: ArePrepared. FoldedLanes: FoldsRow.
-- PreparedCoset: AreQuotientsOn, IsPlaced, FitsRows, HasQuotientsFrom, HasQuotients.
pub mod FoldedPlaces
pub mod FoldedLanes
pub mod PointwiseQuotient
pub mod EmbeddedPoint
pub mod PointRows
pub mod OnCoset
pub mod QuotientOfColumns
pub mod PackedParts
pub mod Groups
pub mod PreparedCoset
