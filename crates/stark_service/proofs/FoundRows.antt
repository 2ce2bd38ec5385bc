-- How many rows preprocessed columns were found to have, and what is said with them and without.
use Rattle.std.proofs.Common.{◌≡◌, ◌⊎◌, inl, inr, refl, subst, ℕ, ◌<◌, ◌≤◌, List, Option, None, Some, IfSome, IsNone}
use Rattle.stark_proof.specs.ProofView.{ProofView}
use Rattle.stark_protocol.specs.Preprocessing.{HasHeight}
use Rattle.stark_statement.specs.StatementView.{StatementView}
use Rattle.stark_answers.specs.CheckedAir.{CheckedAir}
use Rattle.stark_answers.specs.Finding.{IsProof, WhereProof}
use Rattle.stark_answers.specs.Prove.{BeginsInForm, json_line}
use Rattle.stark_answers.specs.ProveFacts.{file_begins}
use Rattle.stark_answers.specs.declared.finding.Finding.{Finding}
use Rattle.stark_answers.specs.declared.finding.Finding.TheVariants as finding
use Rattle.stark_answers.specs.declared.task.ProofForm.TheVariants.{Json}
use Rattle.stark_answers.specs.declared.task.TraceTask.{TraceTask}
use Rattle.stark_answers.specs.declared.verdict.Verdict.{Verdict}
use Rattle.stark_answers.specs.declared.verdict.Verdict.TheVariants as verdict
use Rattle.stark_answers.proofs.VerdictSteps.{of_some}
use Rattle.stark_service.specs.StatementAir.{declared_of}
use Rattle.stark_service.specs.Service.{ServiceOps}
use Rattle.stark_service.specs.StatementFacts.{IsOfTrace, lacks_alone, stated_on_alone, stated_on_file}
use Rattle.stark_service.specs.Statements.{HasNoRows, HasRows, IsFileOn, IsAnswerOn, IsAnswerAtHeight, IsVerdictOn, IsVerdictWithRows, ReadsDeclared}

-- The rows that were found.
rows_found : {F : Type 0} (greatest : ℕ) (air : CheckedAir F) (obtained : Option ℕ) (log_rows : ℕ) → obtained ≡ Some log_rows → IfSome obtained (λ n. HasHeight n air.preprocessed_trace) → IfSome obtained (λ n. n ≤ greatest) → HasRows greatest air log_rows
rows_found greatest air obtained log_rows is height within = record {
  height = of_some (λ n. HasHeight n air.preprocessed_trace) obtained log_rows is height;
  within = of_some (λ n. n ≤ greatest) obtained log_rows is within;
}

-- None were.
no_rows_found : {F : Type 0} (greatest : ℕ) (air : CheckedAir F) (obtained : Option ℕ) → obtained ≡ None → (IsNone obtained → (n : ℕ) → n ≤ greatest → HasHeight n air.preprocessed_trace → ⊥) → HasNoRows greatest air
no_rows_found greatest air None is none = λ log_rows rows. none refl log_rows rows.within rows.height
no_rows_found greatest air (Some n) is none = absurd (cc)

-- Both at another name of the greatest height, of what the AIR declares.
module _ {F : Type 0} (greatest most : ℕ) (same : greatest ≡ most) (air declared : CheckedAir F) (declares : air ≡ declared) (obtained : Option ℕ) where
  pub has_rows_found : (log_rows : ℕ) → obtained ≡ Some log_rows → IfSome obtained (λ n. HasHeight n air.preprocessed_trace) → IfSome obtained (λ n. n ≤ greatest) → HasRows most declared log_rows
  has_rows_found log_rows is height within = subst (λ n. HasRows n declared log_rows) same (subst (λ a. HasRows greatest a log_rows) declares (rows_found greatest air obtained log_rows is height within))

  pub has_no_rows_found : obtained ≡ None → (IsNone obtained → (n : ℕ) → n ≤ greatest → HasHeight n air.preprocessed_trace → ⊥) → HasNoRows most declared
  has_no_rows_found is none = subst (λ n. HasNoRows n declared) same (subst (HasNoRows greatest) declares (no_rows_found greatest air obtained is none))

module _ {S F E C K T P X Y : Type 0} (ops : ServiceOps S F E C K T P X Y) (scheme : S) (first_state : C) (s : StatementView F) where
  abbrev most : ℕ
  most = ops.protocol.opening.scheme.log_max_trace_height scheme

  module _ (read : Option (ProofView K E P F)) (reads : ReadsDeclared (declared_of s.air)) (v : Verdict) where
    pub said_with_rows : (log_rows : ℕ) → HasRows most (declared_of s.air) log_rows → (v ≡ verdict.OutOfMemory) ⊎ IsVerdictWithRows ops scheme first_state s log_rows read v
        → (v ≡ verdict.OutOfMemory) ⊎ IsVerdictOn ops scheme first_state s read v
    unfolding IsVerdictOn
    said_with_rows log_rows rows (inl lacks) = inl lacks
    said_with_rows log_rows rows (inr said) = inr (reads, inl (log_rows, rows, said))

    pub said_without_rows : HasNoRows most (declared_of s.air) → v ≡ verdict.BadInput → (v ≡ verdict.OutOfMemory) ⊎ IsVerdictOn ops scheme first_state s read v
    unfolding IsVerdictOn
    said_without_rows none is = inr (reads, inr (none, is))

  module _ (asked : TraceTask) (read : Option (List (List F))) (f : Finding) where
    pub found_with_rows : (log_rows : ℕ) → 0 < (declared_of s.air).layout.main → HasRows most (declared_of s.air) log_rows
        → (f ≡ finding.Verdict verdict.OutOfMemory) ⊎ IsAnswerAtHeight ops scheme first_state s asked log_rows read f → (f ≡ finding.Verdict verdict.OutOfMemory) ⊎ IsAnswerOn ops scheme first_state s asked read f
    unfolding IsAnswerOn
    found_with_rows log_rows columns rows (inl lacks) = inl lacks
    found_with_rows log_rows columns rows (inr obtained) = inr (inl (log_rows, columns, rows, obtained))

    pub found_without_rows : HasNoRows most (declared_of s.air) → f ≡ finding.Verdict verdict.BadInput → (f ≡ finding.Verdict verdict.OutOfMemory) ⊎ IsAnswerOn ops scheme first_state s asked read f
    unfolding IsAnswerOn
    found_without_rows none is = inr (inr (inr none, is))

    pub found_without_columns : (declared_of s.air).layout.main ≡ 0 → f ≡ finding.Verdict verdict.BadInput → (f ≡ finding.Verdict verdict.OutOfMemory) ⊎ IsAnswerOn ops scheme first_state s asked read f
    unfolding IsAnswerOn
    found_without_columns none is = inr (inr (inl none, is))

-- ---- findings are of their task

module _ {S F E C K T P X Y : Type 0} (ops : ServiceOps S F E C K T P X Y) (line : BeginsInForm Json (json_line ops.writing)) (scheme : S) (first_state : C) (s : StatementView F) (asked : TraceTask) (read : Option (List (List F))) (f : Finding) where
  pub stated_is_of_trace : (f ≡ finding.Verdict verdict.OutOfMemory) ⊎ IsAnswerOn ops scheme first_state s asked read f → IsOfTrace asked f
  stated_is_of_trace (inl memory) = lacks_alone asked f memory
  stated_is_of_trace (inr stated) = stated_on_alone ops (file_begins ops.writing ops.codecs line) scheme first_state s asked read f stated

  pub stated_is_file : (f ≡ finding.Verdict verdict.OutOfMemory) ⊎ IsAnswerOn ops scheme first_state s asked read f → WhereProof (λ form file. IsFileOn ops scheme first_state s form read file) f
  stated_is_file (inl memory) = λ form proof. absurd (subst (IsProof form) memory proof)
  stated_is_file (inr stated) = stated_on_file ops (file_begins ops.writing ops.codecs line) scheme first_state s asked read f stated
