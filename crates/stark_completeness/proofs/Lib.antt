-- FoldedQuotient: folded_divides, quotient_degree. PartPoints, ChunkPolynomials: plain_recomposes, committed_recomposes. OpenedColumns:
-- opened_leaves. EquationOfTrace: recomposed, equation_of_trace. RowSatisfactionSteps: satisfied_by_rows, rows_of_satisfied. SelectorRows:
-- first_elsewhere, last_elsewhere, transition_at_end. BalanceOfTrace:
-- satisfied_by_trace, trace_of_satisfied, row_by_row, trace_is_balanced. HeightSteps: rows_are, rows_power, height_of. RowCheckSteps:
-- same_leaves, first_of_all, rows_grow.
pub mod FoldedQuotient
pub mod PartPoints
pub mod ChunkPolynomials
pub mod OpenedColumns
pub mod EquationOfTrace
pub mod RowSatisfactionSteps
pub mod SelectorRows
pub mod BalanceOfTrace
pub mod HeightSteps
pub mod RowCheckSteps
pub mod RowValueSteps
