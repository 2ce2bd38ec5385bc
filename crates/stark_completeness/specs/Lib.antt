-- TrueOpenings: air_over, columns_above, AreTrueOpenings. CommittedQuotient: AreLawful, AreRowsOfColumns, AreProofSizes, FitCommitted,
-- AreChunksOfQuotient. RowSatisfaction: TraceRows, leaves_in_row, HoldsInRow,
-- HoldsInEachRow, IsSatisfiedByRows. RowCheck: base_air, trace_rows, AreLaidOut, IsFirstViolation. DebugBuilder: values_over.
-- RowSelectors: AreDomainSelectors, AreSelectorsIn. CheckedRows: checked_rows, checked_air, FitsLayout.
pub mod TrueOpenings
pub mod CommittedQuotient
pub mod RowSatisfaction
pub mod RowCheck
pub mod RowValues
pub mod DebugBuilder
pub mod RowSelectors
pub mod CheckedRows
