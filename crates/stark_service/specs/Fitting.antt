-- Rows that were read, as a trace of an AIR's.
use Rattle.std.specs.Prelude.{◌≡◌, ◌⊎◌, ℕ, List, Option, Some, Result, Ok, Err}
use Rattle.std.specs.List.{flat_map}
use Rattle.stark_support.specs.FieldPair.{FieldsOps}
use Rattle.stark_support.specs.declared.matrix.RowMajorMatrix.{RowMajorMatrix}
use Rattle.stark_trace_json.specs.Rows.{HasRows}
use Rattle.stark_trace_json.specs.declared.rows.TraceRows.{TraceRows}
use Rattle.stark_statement.specs.StatementView.{StatementView}
use Rattle.stark_answers.specs.CheckedAir.{CheckedAir, shape_of}
use Rattle.stark_answers.specs.TraceShape.{FitsShape}
use Rattle.stark_answers.specs.declared.finding.Finding.{Finding}
use Rattle.stark_answers.specs.declared.finding.Finding.TheVariants as finding
use Rattle.stark_answers.specs.declared.report.Report.{Report}
use Rattle.stark_answers.specs.declared.verdict.Verdict.TheVariants as verdict
use Rattle.stark_service.specs.StatementAir.{declared_of}
use Rattle.stark_service.specs.TraceChecks.{IsCheckedWithRows, OrLacksMemory}

-- Some rows were read.
abbrev pub AreSomeRows : {F : Type 0} → TraceRows F → Type 0
AreSomeRows {F} table = (rows : List (List F)) × HasRows table rows

-- This is said of the rows that were read, or an allocation failed.
abbrev pub TellsOfRows : {F : Type 0} → TraceRows F → (Option (List (List F)) → Finding → Type 0) → Finding → Type 0
TellsOfRows {F} table IsAnswer f = (rows : List (List F)) → HasRows table rows → OrLacksMemory (IsAnswer (Some rows)) f

-- This holds of the rows that were read.
abbrev pub OfRead : {F : Type 0} → TraceRows F → (List (List F) → Type 0) → Type 0
OfRead {F} table Holds = (rows : List (List F)) → HasRows table rows → Holds rows

-- The rows are a trace of the AIR's with these public values, of at most 2 ^ greatest rows and as many as its preprocessed columns,
-- which have 2 ^ log_rows; and this is it.
pub record IsFitting {F : Type 0} (greatest log_rows : ℕ) (air : CheckedAir F) (public_values : List F) (rows : List (List F)) (trace : RowMajorMatrix F) : Type 0 where
  pub log_height : ℕ
  pub fits : FitsShape (shape_of air) log_rows greatest rows public_values log_height
  pub width : trace.width ≡ (shape_of air).width
  pub values : trace.values.items ≡ flat_map (λ row. row) rows

-- The rows are no such trace.
abbrev pub IsUnfit : {F : Type 0} → ℕ → ℕ → CheckedAir F → List F → List (List F) → Type 0
IsUnfit greatest log_rows air public_values rows = (log_height : ℕ) → FitsShape (shape_of air) log_rows greatest rows public_values log_height → ⊥

module _ {F : Type 0} (greatest log_rows : ℕ) (s : StatementView F) where
  -- The rows are a trace for the statement, and this is it.
  abbrev pub IsTraceOf : List (List F) → RowMajorMatrix F → Type 0
  IsTraceOf rows trace = IsFitting greatest log_rows (declared_of s.air) s.public_values rows trace

  -- A trace is that of some rows.
  abbrev pub IsOfRows : RowMajorMatrix F → Type 0
  IsOfRows trace = (rows : List (List F)) × IsTraceOf rows trace

  -- The trace of the rows; or they are none, and this is said of them; or an allocation failed.
  abbrev pub FitsOrNot : Result (RowMajorMatrix F) (Report Finding) → List (List F) → Type 0
  FitsOrNot (Ok trace) rows = IsTraceOf rows trace
  FitsOrNot (Err report) rows = (report.answer ≡ finding.Verdict verdict.OutOfMemory)
      ⊎ (IsUnfit greatest log_rows (declared_of s.air) s.public_values rows × (report.answer ≡ finding.Verdict verdict.BadInput))

  -- This is answered of the rows whose trace it is, or an allocation failed.
  abbrev pub TellsOfTrace : RowMajorMatrix F → (Option (List (List F)) → Finding → Type 0) → Finding → Type 0
  TellsOfTrace trace IsAnswer f = (rows : List (List F)) → IsTraceOf rows trace → OrLacksMemory (IsAnswer (Some rows)) f

  -- What a check finds of them.
  abbrev pub ChecksTrace : {E : Type 0} → FieldsOps F E → (F → ℕ) → RowMajorMatrix F → Finding → Type 0
  ChecksTrace fields number trace = TellsOfTrace trace (IsCheckedWithRows fields number greatest s log_rows)
