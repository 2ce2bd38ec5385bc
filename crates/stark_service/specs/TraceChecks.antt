-- What a check finds of a trace.
use Rattle.std.specs.Prelude.{◌≡◌, ◌⊎◌, ℕ, ◌*◌, ◌^◌, length, List, ◌++◌, Option, None, Some, codes, string_bytes}
use Rattle.std.specs.Fmt.{decimal}
use Rattle.stark_support.specs.declared.matrix.RowMajorMatrix.{RowMajorMatrix}
use Rattle.stark_support.specs.FieldPair.{FieldsOps}
use Rattle.stark_air.specs.Declaration.{Trace}
use Rattle.stark_completeness.specs.RowCheck.{IsFirstOfTrace, IsSatisfiedByTrace, trace_of as view_of}
use Rattle.stark_completeness.specs.declared.violation.ConstraintViolation.{ConstraintViolation}
use Rattle.stark_support.specs.declared.periodic.PeriodicColumnShapeError.{PeriodicColumnShapeError}
use Rattle.stark_protocol.specs.Preprocessing.{HasHeight}
use Rattle.stark_prover.specs.Sizes.{periodic_fault}
use Rattle.stark_show.specs.Shown.{equation_line}
use Rattle.stark_statement.specs.StatementView.{StatementView}
use Rattle.stark_tree_air.specs.TreeJson.{ListView, list_view}
use Rattle.stark_tree_air.specs.declared.air.TreeAir.{TreeAir}
use Rattle.stark_answers.specs.CheckedAir.{CheckedAir, shape_of}
use Rattle.stark_answers.specs.TraceShape.{FitsShape, trace_of}
use Rattle.stark_answers.specs.declared.finding.BrokenRow.{BrokenRow}
use Rattle.stark_answers.specs.declared.finding.Finding.{Finding}
use Rattle.stark_answers.specs.declared.finding.Finding.TheVariants as finding
use Rattle.stark_answers.specs.declared.verdict.Refusal.TheVariants as refusal
use Rattle.stark_answers.specs.declared.verdict.Verdict.TheVariants as verdict
use Rattle.stark_service.specs.StatementAir.{declared_of}

-- This is found, or an allocation failed.
abbrev pub OrLacksMemory : (Finding → Type 0) → Finding → Type 0
OrLacksMemory IsFound f = (f ≡ finding.Verdict verdict.OutOfMemory) ⊎ IsFound f

-- A trace has the height of the declared one.
abbrev pub IsAsHighAs : {F : Type 0} → Option (Trace F) → RowMajorMatrix F → Type 0
IsAsHighAs declared trace = (height : ℕ) × (length trace.values.items ≡ 2 ^ height * trace.width) × HasHeight height declared

-- The row, the constraint and its value there, and below them the constraint's equation.
abbrev pub broken_lines : {F : Type 0} → (F → ℕ) → ListView F → ConstraintViolation F → List ℕ
broken_lines number list violation =
    codes "row " ++ (decimal violation.row ++ (codes ": constraint " ++ (decimal violation.constraint ++ (codes " is " ++ (decimal (number violation.value) ++ (codes "\n" ++ equation_line number list violation.constraint))))))

-- A row that breaks a constraint, as it is reported.
pub record TellsBroken {F : Type 0} (number : F → ℕ) (list : ListView F) (violation : ConstraintViolation F) (row : BrokenRow) : Type 0 where
  pub row_is : row.row ≡ violation.row
  pub constraint_is : row.constraint ≡ violation.constraint
  pub value_is : row.value ≡ number violation.value
  pub lines_are : string_bytes row.lines ≡ broken_lines number list violation

-- Of a trace of 2 ^ height rows: a periodic column doesn't fit it, which is refused as a prover refuses it; or they all do, and this is found.
abbrev pub UnlessUnfit : Option PeriodicColumnShapeError → (Finding → Type 0) → Finding → Type 0
UnlessUnfit None IsFound f = IsFound f
UnlessUnfit (Some fault) IsFound f = f ≡ finding.Verdict (verdict.Refused refusal.PeriodicColumn)

module _ {F E : Type 0} (fields : FieldsOps F E) (number : F → ℕ) where
  -- Each constraint of an AIR is zero in each row of a trace.
  unfoldable pub IsSatisfying : CheckedAir F → Trace F → List F → Type 0
  IsSatisfying air trace public_values =
      IsSatisfiedByTrace fields.base fields.base_inverse fields.root fields.adicity air.constraints air.periodic_columns trace air.preprocessed_trace public_values

  -- It is the first row of a trace that breaks a constraint, and in it the first constraint.
  unfoldable pub IsFirstBroken : CheckedAir F → Trace F → List F → ConstraintViolation F → Type 0
  IsFirstBroken air trace public_values violation =
      IsFirstOfTrace fields.base fields.base_inverse fields.root fields.adicity air.constraints air.periodic_columns trace air.preprocessed_trace public_values violation

  -- The trace satisfies the AIR; or the finding names the first row that breaks a constraint and in it the first constraint.
  abbrev pub IsCheckedTrace : CheckedAir F → ListView F → Trace F → List F → Finding → Type 0
  IsCheckedTrace air list trace public_values finding.Satisfied = IsSatisfying air trace public_values
  IsCheckedTrace air list trace public_values (finding.Broken row) = (violation : ConstraintViolation F) × IsFirstBroken air trace public_values violation × TellsBroken number list violation row
  IsCheckedTrace air list trace public_values (finding.Verdict v) = ⊥
  IsCheckedTrace air list trace public_values (finding.Proof line) = ⊥
  IsCheckedTrace air list trace public_values (finding.ProofBytes bytes) = ⊥
  IsCheckedTrace air list trace public_values (finding.Text text) = ⊥
  IsCheckedTrace air list trace public_values (finding.TooFewBits line) = ⊥

  -- What a check finds of a matrix as a trace of an AIR that is data, by what it declares; or an allocation failed.
  abbrev pub ChecksMatrix : (TreeAir F → CheckedAir F) → TreeAir F → RowMajorMatrix F → List F → Finding → Type 0
  ChecksMatrix declared air matrix public_values f = OrLacksMemory (IsCheckedTrace (declared air) (list_view air.list) (view_of matrix) public_values) f

  -- The rows are a trace of the AIR's of at most 2 ^ greatest rows, and this is found of it, unless a periodic column doesn't fit it; rows
  -- that are none are bad input, and so is a file that spells no rows.
  unfoldable pub IsCheckedWithRows : ℕ → StatementView F → ℕ → Option (List (List F)) → Finding → Type 0
  IsCheckedWithRows greatest s log_rows None f = f ≡ finding.Verdict verdict.BadInput
  IsCheckedWithRows greatest s log_rows (Some rows) f =
      ((height : ℕ) × FitsShape (shape_of (declared_of s.air)) log_rows greatest rows s.public_values height
      × UnlessUnfit (periodic_fault (declared_of s.air).periodic_columns height) (IsCheckedTrace (declared_of s.air) s.air.list (trace_of (declared_of s.air).layout.main rows) s.public_values) f)
      ⊎ (((height : ℕ) → FitsShape (shape_of (declared_of s.air)) log_rows greatest rows s.public_values height → ⊥) × (f ≡ finding.Verdict verdict.BadInput))

-- What a check finds stands, unless it finds a trace that satisfies its AIR: then this is found after it.
abbrev pub IsFirstChecked : (Finding → Type 0) → (Finding → Type 0) → Finding → Type 0
IsFirstChecked IsChecked IsFound f = (IsChecked finding.Satisfied × IsFound f) ⊎ ((f ≡ finding.Satisfied → ⊥) × IsChecked f)
