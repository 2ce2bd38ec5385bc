-- From what a check and a prover find of rows to what is found under a task.
use Rattle.std.proofs.Common.{◌≡◌, ◌⊎◌, ◌∙◌, inl, inr, ap, refl, subst, sym, Bool, true, false, ℕ, ◌*◌, ◌/◌, ◌^◌, ◌<◌, List, Option, None, Some, length, map, vec_len}
use Rattle.std.proofs.Math.Nat.{mul-div_cancel}
use Rattle.std.specs.List.{flat_map}
use Rattle.std.specs.declared.vec.Vec.{Vec}
use Rattle.stark_support.specs.FieldPair.{FieldsOps}
use Rattle.stark_air.specs.Declaration.{Trace, trace_width}
use Rattle.stark_completeness.specs.RowCheck.{IsRefusedOr}
use Rattle.stark_completeness.specs.declared.violation.ConstraintCheckError.{ConstraintCheckError}
use Rattle.stark_completeness.specs.declared.violation.ConstraintCheckError.TheVariants.{Violation}
use Rattle.stark_completeness.specs.declared.violation.ConstraintViolation.{ConstraintViolation}
use Rattle.stark_support.specs.Periodic.{first_fault}
use Rattle.stark_support.specs.declared.periodic.PeriodicColumnShapeError.{PeriodicColumnShapeError}
use Rattle.stark_protocol.specs.Preprocessing.{HasHeight}
use Rattle.stark_prover.specs.Sizes.{periodic_fault}
use Rattle.stark_prover.proofs.Columns.{fault_of_lists}
use Rattle.stark_statement.specs.StatementView.{StatementView}
use Rattle.stark_trace_json.specs.Rows.{SpellsNoTrace}
use Rattle.stark_answers.specs.CheckedAir.{CheckedAir, shape_of}
use Rattle.stark_answers.specs.Prove.{IsTraceFor}
use Rattle.stark_answers.specs.TraceShape.{FitsShape, trace_of}
use Rattle.stark_answers.specs.declared.finding.Finding.{Finding}
use Rattle.stark_answers.specs.declared.finding.Finding.TheVariants as finding
use Rattle.stark_answers.specs.declared.shape.CheckShape.{CheckShape}
use Rattle.stark_answers.specs.declared.task.ProofForm.{ProofForm}
use Rattle.stark_answers.specs.declared.task.TraceTask.{TraceTask}
use Rattle.stark_answers.specs.declared.task.TraceTask.TheVariants as task
use Rattle.stark_answers.specs.declared.verdict.Refusal.TheVariants as refusal
use Rattle.stark_answers.specs.declared.verdict.Verdict.{Verdict}
use Rattle.stark_answers.specs.declared.verdict.Verdict.TheVariants as verdict
use Rattle.stark_answers.proofs.TraceSteps.{trace_fits}
use Rattle.stark_service.specs.StatementAir.{declared_of}
use Rattle.stark_service.specs.Service.{ServiceOps}
use Rattle.stark_service.specs.Heights.{AtFixedHeight, has_fixed_height}
use Rattle.stark_service.specs.Statements.{IsFoundWithRows, IsAnswerAtHeight, IsAnswerWithRows}
use Rattle.stark_service.specs.TraceChecks.{IsCheckedTrace, IsCheckedWithRows, UnlessUnfit}
use Rattle.stark_service.specs.Fitting.{IsUnfit}
use Rattle.stark_service.proofs.FittingRows.{uneven_unfit}

abbrev no_memory : Finding
no_memory = finding.Verdict verdict.OutOfMemory

-- What is said of an error holds of the violation that it is.
pub violation_found : {F : Type 0} (Holds : ConstraintViolation F → Type 0) (error : ConstraintCheckError F) (violation : ConstraintViolation F) → error ≡ Violation violation → IsRefusedOr Holds error → Holds violation
violation_found Holds error violation is holds = subst (IsRefusedOr Holds) is holds

-- ---- what a check finds of rows

module _ {F E : Type 0} (fields : FieldsOps F E) (number : F → ℕ) (greatest : ℕ) (s : StatementView F) (log_rows : ℕ) (rows : List (List F)) (air : CheckedAir F) (shape : CheckShape) (f : Finding) (same : shape ≡ shape_of air) (declares : air ≡ declared_of s.air) where
  -- of rows in the AIR's widths and counts, whose number its periodic columns fit
  pub checked_shaped : (height : ℕ) (trace : Trace F) (listed : List F) → FitsShape shape log_rows greatest rows s.public_values height → trace ≡ trace_of air.layout.main rows → listed ≡ s.public_values
      → periodic_fault air.periodic_columns height ≡ None
      → (f ≡ no_memory) ⊎ IsCheckedTrace fields number air s.air.list trace listed f → (f ≡ no_memory) ⊎ IsCheckedWithRows fields number greatest s log_rows (Some rows) f
  unfolding IsCheckedWithRows
  checked_shaped height trace listed fits is lists fitting (inl memory) = inl memory
  checked_shaped height trace listed fits is lists fitting (inr checked) = inr (inl (
    height,
    subst (λ a. FitsShape (shape_of a) log_rows greatest rows s.public_values height) declares (subst (λ k. FitsShape k log_rows greatest rows s.public_values height) same fits),
    subst (λ (a : CheckedAir F). UnlessUnfit (periodic_fault a.periodic_columns height) (IsCheckedTrace fields number a s.air.list (trace_of a.layout.main rows) s.public_values) f) declares
        (subst (λ fault. UnlessUnfit fault (IsCheckedTrace fields number air s.air.list (trace_of air.layout.main rows) s.public_values) f) (sym fitting)
        (subst (λ ps. IsCheckedTrace fields number air s.air.list (trace_of air.layout.main rows) ps f) lists
        (subst (λ t. IsCheckedTrace fields number air s.air.list t listed f) is checked))),
  ))

  -- of rows whose number a periodic column doesn't fit
  pub checked_unfit : (height : ℕ) (fault : PeriodicColumnShapeError) → FitsShape shape log_rows greatest rows s.public_values height → periodic_fault air.periodic_columns height ≡ Some fault
      → f ≡ finding.Verdict (verdict.Refused refusal.PeriodicColumn) → (f ≡ no_memory) ⊎ IsCheckedWithRows fields number greatest s log_rows (Some rows) f
  unfolding IsCheckedWithRows
  checked_unfit height fault fits unfit is = inr (inl (
    height,
    subst (λ a. FitsShape (shape_of a) log_rows greatest rows s.public_values height) declares (subst (λ k. FitsShape k log_rows greatest rows s.public_values height) same fits),
    subst (λ (a : CheckedAir F). UnlessUnfit (periodic_fault a.periodic_columns height) (IsCheckedTrace fields number a s.air.list (trace_of a.layout.main rows) s.public_values) f) declares
        (subst (λ found. UnlessUnfit found (IsCheckedTrace fields number air s.air.list (trace_of air.layout.main rows) s.public_values) f) (sym unfit) is),
  ))

  -- of others
  pub unchecked_unshaped : ((height : ℕ) → FitsShape shape log_rows greatest rows s.public_values height → ⊥) → f ≡ finding.Verdict verdict.BadInput → (f ≡ no_memory) ⊎ IsCheckedWithRows fields number greatest s log_rows (Some rows) f
  unfolding IsCheckedWithRows
  unchecked_unshaped none is = inr (inr (λ height fits. none height (subst (λ k. FitsShape k log_rows greatest rows s.public_values height) (sym same) (subst (λ a. FitsShape (shape_of a) log_rows greatest rows s.public_values height) (sym declares) fits)), is))

-- What is wrong with columns beside a matrix of 2 ^ height rows.
pub fault_at_height : {F A : Type 0} (columns : List (Vec F A)) (height values width rows : ℕ) → values ≡ 2 ^ height * width → 0 < width → rows ≡ values / width → (fault : Option PeriodicColumnShapeError) → fault ≡ first_fault rows 0 (map vec_len columns)
    → periodic_fault (map (λ column. column.items) columns) height ≡ fault
fault_at_height columns height values width rows whole wide counted fault obtained =
    fault_of_lists (λ column. column.items) vec_len (λ column. column.ok.0) columns (map (λ column. column.items) columns) refl rows (2 ^ height) (counted ∙ ap (λ k. k / width) whole ∙ mul-div_cancel (2 ^ height) wide) fault (sym obtained)

-- At another name of the greatest height.
pub checked_within : {F E : Type 0} (fields : FieldsOps F E) (number : F → ℕ) (greatest most : ℕ) → greatest ≡ most → (s : StatementView F) (log_rows : ℕ) (read : Option (List (List F))) (f : Finding)
    → (f ≡ no_memory) ⊎ IsCheckedWithRows fields number greatest s log_rows read f → (f ≡ no_memory) ⊎ IsCheckedWithRows fields number most s log_rows read f
checked_within fields number greatest most same s log_rows read f = subst (λ n. (f ≡ no_memory) ⊎ IsCheckedWithRows fields number n s log_rows read f) same

-- Preprocessed columns stand at the trace's height, where there are some.
pub columns_height : {F : Type 0} (declared : Option (Trace F)) (log_rows height : ℕ) → HasHeight log_rows declared → (0 < trace_width declared → height ≡ log_rows) → HasHeight height declared
columns_height declared log_rows height has same = λ t some wide.
    subst (λ n. length t.values ≡ 2 ^ n * t.width) (sym (same (subst (λ n. 0 < n) (sym (ap trace_width some)) wide))) (has t some wide)

-- Rows in an AIR's widths and counts are a trace for it.
pub rows_fit : {F : Type 0} (greatest : ℕ) (public_values : List F) (log_rows : ℕ) (rows : List (List F)) (air : CheckedAir F) (shape : CheckShape) (height width num : ℕ) (values : List F) → shape ≡ shape_of air → FitsShape shape log_rows greatest rows public_values height
    → 0 < air.layout.main → width ≡ shape.width → values ≡ flat_map (λ row. row) rows → num ≡ length public_values → IsTraceFor air.layout log_rows (record { width = width; values = values }) num 0 greatest
rows_fit greatest public_values log_rows rows air shape height width num values same fits main wide is count =
    trace_fits shape log_rows greatest rows public_values height fits air.layout width num values main (ap (λ k. k.width) same) (ap (λ k. k.num_public_values) same) (ap (λ k. k.preprocessed_width) same) wide is count

-- ---- what is found

module _ {S F E C K T P X Y : Type 0} (ops : ServiceOps S F E C K T P X Y) (scheme : S) (first_state : C) (s : StatementView F) (log_rows : ℕ) (asked : TraceTask) where
  abbrev most : ℕ
  most = ops.protocol.opening.scheme.log_max_trace_height scheme

  module _ (read : Option (List (List F))) (f : Finding) where
    pub stated_check : asked ≡ task.Check → (f ≡ no_memory) ⊎ IsCheckedWithRows ops.protocol.opening.fields ops.number most s log_rows read f → (f ≡ no_memory) ⊎ IsAnswerWithRows ops scheme first_state s asked log_rows read f
    unfolding IsAnswerWithRows
    stated_check is checked = subst (λ k. (f ≡ no_memory) ⊎ IsAnswerWithRows ops scheme first_state s k log_rows read f) (sym is) checked

    pub stated_unchecked : (form : ProofForm) → asked ≡ task.ProveUnchecked form → (f ≡ no_memory) ⊎ IsFoundWithRows ops scheme first_state s form log_rows read f → (f ≡ no_memory) ⊎ IsAnswerWithRows ops scheme first_state s asked log_rows read f
    unfolding IsAnswerWithRows
    stated_unchecked form is obtained = subst (λ k. (f ≡ no_memory) ⊎ IsAnswerWithRows ops scheme first_state s k log_rows read f) (sym is) obtained

    -- after a check that finds the trace satisfying
    pub stated_satisfied : (form : ProofForm) → asked ≡ task.Prove form → (g : Finding) → g ≡ finding.Satisfied → (g ≡ no_memory) ⊎ IsCheckedWithRows ops.protocol.opening.fields ops.number most s log_rows read g → (f ≡ no_memory) ⊎ IsFoundWithRows ops scheme first_state s form log_rows read f
        → (f ≡ no_memory) ⊎ IsAnswerWithRows ops scheme first_state s asked log_rows read f
    unfolding IsAnswerWithRows
    stated_satisfied form is g satisfied (inl memory) obtained = absurd (let clash : finding.Satisfied ≡ no_memory = sym satisfied ∙ memory in cc)
    stated_satisfied form is g satisfied (inr checked) (inl memory) = inl memory
    stated_satisfied form is g satisfied (inr checked) (inr obtained) =
        inr (subst (λ k. IsAnswerWithRows ops scheme first_state s k log_rows read f) (sym is) (inl (subst (IsCheckedWithRows ops.protocol.opening.fields ops.number most s log_rows read) satisfied checked, obtained)))

    -- where a check finds anything else
    pub stated_otherwise : (form : ProofForm) → asked ≡ task.Prove form → (f ≡ finding.Satisfied → ⊥) → (f ≡ no_memory) ⊎ IsCheckedWithRows ops.protocol.opening.fields ops.number most s log_rows read f → (f ≡ no_memory) ⊎ IsAnswerWithRows ops scheme first_state s asked log_rows read f
    unfolding IsAnswerWithRows
    stated_otherwise form is other (inl memory) = inl memory
    stated_otherwise form is other (inr checked) = inr (subst (λ k. IsAnswerWithRows ops scheme first_state s k log_rows read f) (sym is) (inr (other, checked)))

    -- What is found of the rows that were read is found of the file.
    pub stated_of_read : (rows given : List (List F)) → read ≡ Some rows → given ≡ rows → (f ≡ no_memory) ⊎ IsAnswerWithRows ops scheme first_state s asked log_rows (Some given) f
        → (f ≡ no_memory) ⊎ IsAnswerWithRows ops scheme first_state s asked log_rows read f
    stated_of_read rows given is same stated =
        subst (λ r. (f ≡ no_memory) ⊎ IsAnswerWithRows ops scheme first_state s asked log_rows r f) (sym is) (subst (λ rs. (f ≡ no_memory) ⊎ IsAnswerWithRows ops scheme first_state s asked log_rows (Some rs) f) same stated)

  bad_rows : (k : TraceTask) → IsAnswerWithRows ops scheme first_state s k log_rows None (finding.Verdict verdict.BadInput)
  unfolding IsAnswerWithRows IsCheckedWithRows IsFoundWithRows
  bad_rows task.Check = refl
  bad_rows (task.Prove form) = inr (λ is. cc, refl)
  bad_rows (task.ProveUnchecked form) = refl

  unfit_rows : (rows : List (List F)) → IsUnfit most log_rows (declared_of s.air) s.public_values rows → (k : TraceTask) → IsAnswerWithRows ops scheme first_state s k log_rows (Some rows) (finding.Verdict verdict.BadInput)
  unfolding IsAnswerWithRows IsCheckedWithRows IsFoundWithRows
  unfit_rows rows none task.Check = inr (none, refl)
  unfit_rows rows none (task.Prove form) = inr (λ is. cc, inr (none, refl))
  unfit_rows rows none (task.ProveUnchecked form) = inr (none, refl)

  -- Rows that are no trace of the AIR's are bad input,
  pub stated_unfit : (greatest : ℕ) (rows : List (List F)) (f : Finding) → greatest ≡ most
      → (f ≡ no_memory) ⊎ (IsUnfit greatest log_rows (declared_of s.air) s.public_values rows × (f ≡ finding.Verdict verdict.BadInput)) → (f ≡ no_memory) ⊎ IsAnswerWithRows ops scheme first_state s asked log_rows (Some rows) f
  stated_unfit greatest rows f same (inl memory) = inl memory
  stated_unfit greatest rows f same (inr bad) =
      let none = subst (λ n. IsUnfit n log_rows (declared_of s.air) s.public_values rows) same bad.0 in
      inr (subst (λ g. IsAnswerWithRows ops scheme first_state s asked log_rows (Some rows) g) (sym bad.1) (unfit_rows rows none asked))

  -- and so is a file that spells no rows, or rows of different lengths.
  spells_none : (read : Option (List (List F))) → SpellsNoTrace read → IsAnswerWithRows ops scheme first_state s asked log_rows read (finding.Verdict verdict.BadInput)
  spells_none None none = bad_rows asked
  spells_none (Some rows) uneven = unfit_rows rows (uneven_unfit (shape_of (declared_of s.air)) log_rows most rows s.public_values uneven) asked

  -- At the height that the statement fixes the answer is this one; at another one the rows are bad input.
  pub at_height : (read : Option (List (List F))) (f : Finding) → has_fixed_height s.log_height read ≡ true → (f ≡ no_memory) ⊎ IsAnswerWithRows ops scheme first_state s asked log_rows read f
      → (f ≡ no_memory) ⊎ IsAnswerAtHeight ops scheme first_state s asked log_rows read f
  unfolding IsAnswerAtHeight
  at_height read f fixed (inl memory) = inl memory
  at_height read f fixed (inr stated) = inr (subst (λ b. AtFixedHeight b (IsAnswerWithRows ops scheme first_state s asked log_rows read) f) (sym fixed) stated)

  pub at_other_height : (read : Option (List (List F))) (f : Finding) → has_fixed_height s.log_height read ≡ false → f ≡ finding.Verdict verdict.BadInput
      → (f ≡ no_memory) ⊎ IsAnswerAtHeight ops scheme first_state s asked log_rows read f
  unfolding IsAnswerAtHeight
  at_other_height read f other bad = inr (subst (λ b. AtFixedHeight b (IsAnswerWithRows ops scheme first_state s asked log_rows read) f) (sym other) bad)

  bad_at_any : (read : Option (List (List F))) (f : Finding) (b : Bool) → f ≡ finding.Verdict verdict.BadInput → IsAnswerWithRows ops scheme first_state s asked log_rows read f
      → AtFixedHeight b (IsAnswerWithRows ops scheme first_state s asked log_rows read) f
  bad_at_any read f true bad stated = stated
  bad_at_any read f false bad stated = bad

  -- A file that spells no rows, or rows of different lengths, is bad input.
  pub stated_without_rows : (read : Option (List (List F))) (v : Verdict) (f : Finding) → f ≡ finding.Verdict v → (v ≡ verdict.OutOfMemory) ⊎ (SpellsNoTrace read × (v ≡ verdict.BadInput))
      → (f ≡ no_memory) ⊎ IsAnswerAtHeight ops scheme first_state s asked log_rows read f
  unfolding IsAnswerAtHeight
  stated_without_rows read v f is (inl memory) = inl (is ∙ ap (λ w. finding.Verdict w) memory)
  stated_without_rows read v f is (inr bad) =
      let as_bad = is ∙ ap (λ w. finding.Verdict w) bad.1 in
      inr (bad_at_any read f (has_fixed_height s.log_height read) as_bad (subst (λ g. IsAnswerWithRows ops scheme first_state s asked log_rows read g) (sym as_bad) (spells_none read bad.0)))
