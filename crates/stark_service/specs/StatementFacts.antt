-- What is said where a statement's prover or check finds something.
use Rattle.std.specs.Prelude.{◌≡◌, ℕ, Bool, true, false, List, Option, None, Some, take}
use Rattle.std.proofs.Common.{ap, inl, inr, refl, subst, sym}
use Rattle.stark_support.specs.FieldPair.{FieldsOps}
use Rattle.stark_support.specs.declared.periodic.PeriodicColumnShapeError.{PeriodicColumnShapeError}
use Rattle.stark_air.specs.Declaration.{Trace}
use Rattle.stark_tree_air.specs.TreeJson.{ListView}
use Rattle.stark_prover.specs.Sizes.{periodic_fault}
use Rattle.stark_statement.specs.StatementView.{StatementView}
use Rattle.stark_answers.specs.CheckedAir.{CheckedAir}
use Rattle.stark_answers.specs.Finding.{AsksFor, BeginsAsItsKind, IsProof, IsText, WhereProof, finding_bytes}
use Rattle.stark_answers.specs.Prove.{BeginsInForm, IsProofFile, IsProved}
use Rattle.stark_answers.specs.ProveFacts.{accepted_alone, begins_alone, file_alone, no_text_alone, satisfied_alone}
use Rattle.stark_answers.specs.TraceShape.{trace_of}
use Rattle.stark_answers.specs.declared.finding.Finding.{Finding}
use Rattle.stark_answers.specs.declared.finding.Finding.TheVariants as finding
use Rattle.stark_answers.specs.declared.task.ProofForm.{ProofForm}
use Rattle.stark_answers.specs.declared.task.TraceTask.{TraceTask}
use Rattle.stark_answers.specs.declared.task.TraceTask.TheVariants as task
use Rattle.stark_answers.specs.declared.verdict.Refusal.TheVariants as refusal
use Rattle.stark_answers.specs.declared.verdict.Verdict.{Verdict}
use Rattle.stark_answers.specs.declared.verdict.Verdict.TheVariants as verdict
use Rattle.stark_service.specs.StatementAir.{declared_of}
use Rattle.stark_service.specs.Service.{ServiceOps, proof_file}
use Rattle.stark_service.specs.Heights.{AtFixedHeight, has_fixed_height}
use Rattle.stark_service.specs.Statements.{IsFileOn, IsFileWithRows, IsFoundWithRows, IsAnswerAtHeight, IsAnswerOn, IsAnswerWithRows}
use Rattle.stark_service.specs.TraceChecks.{IsCheckedTrace, IsCheckedWithRows, UnlessUnfit}

-- ---- what no finding of a trace is

-- The facts about a finding of a trace under a task: it begins as its kind does, accepts nothing and shows nothing; it is a proof only
-- in the form that is asked for, a check's none, and only a check finds a trace satisfying.
pub record IsOfTrace (asked : TraceTask) (f : Finding) : Type 0 where
  pub begins : BeginsAsItsKind f
  pub accepts_none : f ≡ finding.Verdict verdict.Accepted → ⊥
  pub shows_none : IsText f → ⊥
  pub proves_as_asked : (form : ProofForm) → IsProof form f → AsksFor form asked
  pub satisfied_checks : f ≡ finding.Satisfied → asked ≡ task.Check

-- A verdict that doesn't accept is such a finding.
verdict_alone : (asked : TraceTask) (v : Verdict) → (v ≡ verdict.Accepted → ⊥) → IsOfTrace asked (finding.Verdict v)
verdict_alone asked v other = record {
  begins = tt;
  accepts_none = λ is. other (let same : v ≡ verdict.Accepted = cc in same);
  shows_none = λ no. no;
  proves_as_asked = λ form no. absurd no;
  satisfied_checks = λ is. absurd (let clash : finding.Verdict v ≡ finding.Satisfied = is in cc);
}

bad_alone : (asked : TraceTask) → IsOfTrace asked (finding.Verdict verdict.BadInput)
bad_alone asked = verdict_alone asked verdict.BadInput (λ is. cc)

-- Nor is what is said for want of memory another.
pub lacks_alone : (asked : TraceTask) (f : Finding) → f ≡ finding.Verdict verdict.OutOfMemory → IsOfTrace asked f
lacks_alone asked f memory = subst (IsOfTrace asked) (sym memory) (verdict_alone asked verdict.OutOfMemory (λ is. cc))

bad_no_proof : (f : Finding) → f ≡ finding.Verdict verdict.BadInput → (form : ProofForm) → IsProof form f → ⊥
bad_no_proof f is form proof = subst (IsProof form) is proof

-- ---- what a check finds

module _ {F E : Type 0} (fields : FieldsOps F E) (number : F → ℕ) where
  checked_alone : (asked : TraceTask) (air : CheckedAir F) (list : ListView F) (trace : Trace F) (public_values : List F) (f : Finding) → IsCheckedTrace fields number air list trace public_values f
      → (f ≡ finding.Satisfied → asked ≡ task.Check) → IsOfTrace asked f
  checked_alone asked air list trace public_values finding.Satisfied checked satisfied = record { begins = tt; accepts_none = λ is. cc; shows_none = λ no. no; proves_as_asked = λ form no. absurd no; satisfied_checks = satisfied }
  checked_alone asked air list trace public_values (finding.Broken row) checked satisfied =
      record { begins = ap (take 1) checked.2.lines_are; accepts_none = λ is. cc; shows_none = λ no. no; proves_as_asked = λ form no. absurd no; satisfied_checks = satisfied }
  checked_alone asked air list trace public_values (finding.Verdict v) checked satisfied = absurd checked
  checked_alone asked air list trace public_values (finding.Proof line) checked satisfied = absurd checked
  checked_alone asked air list trace public_values (finding.ProofBytes bytes) checked satisfied = absurd checked
  checked_alone asked air list trace public_values (finding.Text text) checked satisfied = absurd checked
  checked_alone asked air list trace public_values (finding.TooFewBits line) checked satisfied = absurd checked

  checked_no_proof : (air : CheckedAir F) (list : ListView F) (trace : Trace F) (public_values : List F) (f : Finding) → IsCheckedTrace fields number air list trace public_values f → (form : ProofForm) → IsProof form f → ⊥
  checked_no_proof air list trace public_values finding.Satisfied checked form is = is
  checked_no_proof air list trace public_values (finding.Broken row) checked form is = is
  checked_no_proof air list trace public_values (finding.Verdict v) checked form is = is
  checked_no_proof air list trace public_values (finding.Proof line) checked form is = checked
  checked_no_proof air list trace public_values (finding.ProofBytes bytes) checked form is = checked
  checked_no_proof air list trace public_values (finding.Text text) checked form is = is
  checked_no_proof air list trace public_values (finding.TooFewBits line) checked form is = is

  unless_alone : (asked : TraceTask) (fault : Option PeriodicColumnShapeError) (air : CheckedAir F) (list : ListView F) (trace : Trace F) (public_values : List F) (f : Finding)
      → UnlessUnfit fault (IsCheckedTrace fields number air list trace public_values) f → (f ≡ finding.Satisfied → asked ≡ task.Check) → IsOfTrace asked f
  unless_alone asked None air list trace public_values f checked satisfied = checked_alone asked air list trace public_values f checked satisfied
  unless_alone asked (Some fault) air list trace public_values f is satisfied = subst (IsOfTrace asked) (sym is) (verdict_alone asked (verdict.Refused refusal.PeriodicColumn) (λ same. cc))

  unless_no_proof : (fault : Option PeriodicColumnShapeError) (air : CheckedAir F) (list : ListView F) (trace : Trace F) (public_values : List F) (f : Finding)
      → UnlessUnfit fault (IsCheckedTrace fields number air list trace public_values) f → (form : ProofForm) → IsProof form f → ⊥
  unless_no_proof None air list trace public_values f checked form proof = checked_no_proof air list trace public_values f checked form proof
  unless_no_proof (Some fault) air list trace public_values f is form proof = subst (IsProof form) is proof

  module _ (greatest : ℕ) (s : StatementView F) (log_rows : ℕ) where
    rows_checked : (asked : TraceTask) (read : Option (List (List F))) (f : Finding) → IsCheckedWithRows fields number greatest s log_rows read f → (f ≡ finding.Satisfied → asked ≡ task.Check) → IsOfTrace asked f
    unfolding IsCheckedWithRows
    rows_checked asked None f is satisfied = subst (IsOfTrace asked) (sym is) (bad_alone asked)
    rows_checked asked (Some rows) f (inl obtained) satisfied = unless_alone asked (periodic_fault (declared_of s.air).periodic_columns obtained.0) (declared_of s.air) s.air.list (trace_of (declared_of s.air).layout.main rows) s.public_values f obtained.2 satisfied
    rows_checked asked (Some rows) f (inr other) satisfied = subst (IsOfTrace asked) (sym other.1) (bad_alone asked)

    pub rows_prove_none : (read : Option (List (List F))) (f : Finding) → IsCheckedWithRows fields number greatest s log_rows read f → (form : ProofForm) → IsProof form f → ⊥
    unfolding IsCheckedWithRows
    rows_prove_none None f is form proof = bad_no_proof f is form proof
    rows_prove_none (Some rows) f (inl obtained) form proof = unless_no_proof (periodic_fault (declared_of s.air).periodic_columns obtained.0) (declared_of s.air) s.air.list (trace_of (declared_of s.air).layout.main rows) s.public_values f obtained.2 form proof
    rows_prove_none (Some rows) f (inr other) form proof = bad_no_proof f other.1 form proof

-- ---- what is found under a task

-- By a service whose files of proofs begin as their forms do.
abbrev pub BeginsInForms : {S F E C K T P X Y : Type 0} → ServiceOps S F E C K T P X Y → Type 0
BeginsInForms ops = (form : ProofForm) → BeginsInForm form (proof_file ops form)

module _ {S F E C K T P X Y : Type 0} (ops : ServiceOps S F E C K T P X Y) (begins : BeginsInForms ops) (scheme : S) (first_state : C) (s : StatementView F) (log_rows : ℕ) where
  module _ (form : ProofForm) (height : ℕ) (rows : List (List F)) where
    abbrev proved : Finding → Type 0
    proved f = IsProved ops.protocol ops.coordinates form (proof_file ops form) log_rows scheme first_state (declared_of s.air) height (trace_of (declared_of s.air).layout.main rows) s.public_values s.ood_bits s.alpha_bits f

    abbrev proofs : List ℕ → Type 0
    proofs file = IsProofFile ops.protocol ops.coordinates (proof_file ops form) log_rows scheme first_state (declared_of s.air) height (trace_of (declared_of s.air).layout.main rows) s.public_values s.ood_bits s.alpha_bits file

    proved_file : (f : Finding) → proved f → WhereProof (λ other file. (other ≡ form) × proofs file) f
    proved_file f obtained =
        file_alone ops.protocol ops.coordinates form (proof_file ops form) (begins form) log_rows scheme first_state (declared_of s.air) height (trace_of (declared_of s.air).layout.main rows) s.public_values s.ood_bits s.alpha_bits f obtained

    proved_of_trace : (asked : TraceTask) → AsksFor form asked → (f : Finding) → proved f → IsOfTrace asked f
    proved_of_trace asked asks f obtained = record {
      begins = begins_alone ops.protocol ops.coordinates form (proof_file ops form) (begins form) log_rows scheme first_state (declared_of s.air) height (trace_of (declared_of s.air).layout.main rows) s.public_values s.ood_bits s.alpha_bits f obtained;
      accepts_none = λ is. accepted_alone ops.protocol ops.coordinates form (proof_file ops form) (begins form) log_rows scheme first_state (declared_of s.air) height (trace_of (declared_of s.air).layout.main rows) s.public_values s.ood_bits s.alpha_bits (subst proved is obtained);
      shows_none = no_text_alone ops.protocol ops.coordinates form (proof_file ops form) (begins form) log_rows scheme first_state (declared_of s.air) height (trace_of (declared_of s.air).layout.main rows) s.public_values s.ood_bits s.alpha_bits f obtained;
      proves_as_asked = λ other is. subst (λ k. AsksFor k asked) (sym (proved_file f obtained other is).0) asks;
      satisfied_checks = λ is. absurd (satisfied_alone ops.protocol ops.coordinates form (proof_file ops form) (begins form) log_rows scheme first_state (declared_of s.air) height (trace_of (declared_of s.air).layout.main rows) s.public_values s.ood_bits s.alpha_bits (subst proved is obtained));
    }

  found_alone : (form : ProofForm) (asked : TraceTask) → AsksFor form asked → (read : Option (List (List F))) (f : Finding) → IsFoundWithRows ops scheme first_state s form log_rows read f → IsOfTrace asked f
  unfolding IsFoundWithRows
  found_alone form asked asks None f is = subst (IsOfTrace asked) (sym is) (bad_alone asked)
  found_alone form asked asks (Some rows) f (inl obtained) = proved_of_trace form obtained.0 rows asked asks f obtained.2
  found_alone form asked asks (Some rows) f (inr unfit) = subst (IsOfTrace asked) (sym unfit.1) (bad_alone asked)

  found_file : (form : ProofForm) (read : Option (List (List F))) (f : Finding) → IsFoundWithRows ops scheme first_state s form log_rows read f → WhereProof (λ other file. IsFileWithRows ops scheme first_state s other log_rows read file) f
  unfolding IsFoundWithRows IsFileWithRows
  found_file form None f is = λ other proof. absurd (bad_no_proof f is other proof)
  found_file form (Some rows) f (inl obtained) = λ other proof. let made = proved_file form obtained.0 rows f obtained.2 other proof in
      subst (λ k. IsFileWithRows ops scheme first_state s k log_rows (Some rows) (finding_bytes f)) (sym made.0) (obtained.0, obtained.1, made.1)
  found_file form (Some rows) f (inr unfit) = λ other proof. absurd (bad_no_proof f unfit.1 other proof)

  abbrev most : ℕ
  most = ops.protocol.opening.scheme.log_max_trace_height scheme

  stated_alone : (asked : TraceTask) (read : Option (List (List F))) (f : Finding) → IsAnswerWithRows ops scheme first_state s asked log_rows read f → IsOfTrace asked f
  unfolding IsAnswerWithRows
  stated_alone task.Check read f stated = rows_checked ops.protocol.opening.fields ops.number most s log_rows task.Check read f stated (λ is. refl)
  stated_alone (task.Prove form) read f (inl stated) = found_alone form (task.Prove form) refl read f stated.1
  stated_alone (task.Prove form) read f (inr stated) = rows_checked ops.protocol.opening.fields ops.number most s log_rows (task.Prove form) read f stated.1 (λ is. absurd (stated.0 is))
  stated_alone (task.ProveUnchecked form) read f stated = found_alone form (task.ProveUnchecked form) refl read f stated

  stated_file : (asked : TraceTask) (read : Option (List (List F))) (f : Finding) → IsAnswerWithRows ops scheme first_state s asked log_rows read f → WhereProof (λ form file. IsFileWithRows ops scheme first_state s form log_rows read file) f
  unfolding IsAnswerWithRows
  stated_file task.Check read f stated = λ form proof. absurd (rows_prove_none ops.protocol.opening.fields ops.number most s log_rows read f stated form proof)
  stated_file (task.Prove form) read f (inl stated) = found_file form read f stated.1
  stated_file (task.Prove form) read f (inr stated) = λ other proof. absurd (rows_prove_none ops.protocol.opening.fields ops.number most s log_rows read f stated.1 other proof)
  stated_file (task.ProveUnchecked form) read f stated = found_file form read f stated

  -- the same at the height that the statement fixes
  height_alone : (b : Bool) (asked : TraceTask) (read : Option (List (List F))) (f : Finding) → AtFixedHeight b (IsAnswerWithRows ops scheme first_state s asked log_rows read) f → IsOfTrace asked f
  height_alone true asked read f stated = stated_alone asked read f stated
  height_alone false asked read f bad = subst (IsOfTrace asked) (sym bad) (bad_alone asked)

  at_height_alone : (asked : TraceTask) (read : Option (List (List F))) (f : Finding) → IsAnswerAtHeight ops scheme first_state s asked log_rows read f → IsOfTrace asked f
  unfolding IsAnswerAtHeight
  at_height_alone asked read f stated = height_alone (has_fixed_height s.log_height read) asked read f stated

  height_file : (b : Bool) (asked : TraceTask) (read : Option (List (List F))) (f : Finding) → AtFixedHeight b (IsAnswerWithRows ops scheme first_state s asked log_rows read) f
      → WhereProof (λ form file. IsFileWithRows ops scheme first_state s form log_rows read file) f
  height_file true asked read f stated = stated_file asked read f stated
  height_file false asked read f bad = λ form proof. absurd (bad_no_proof f bad form proof)

  at_height_file : (asked : TraceTask) (read : Option (List (List F))) (f : Finding) → IsAnswerAtHeight ops scheme first_state s asked log_rows read f
      → WhereProof (λ form file. IsFileWithRows ops scheme first_state s form log_rows read file) f
  unfolding IsAnswerAtHeight
  at_height_file asked read f stated = height_file (has_fixed_height s.log_height read) asked read f stated

module _ {S F E C K T P X Y : Type 0} (ops : ServiceOps S F E C K T P X Y) (begins : BeginsInForms ops) (scheme : S) (first_state : C) (s : StatementView F) (asked : TraceTask) (read : Option (List (List F))) (f : Finding) where
  pub stated_on_alone : IsAnswerOn ops scheme first_state s asked read f → IsOfTrace asked f
  unfolding IsAnswerOn
  stated_on_alone (inl stated) = at_height_alone ops begins scheme first_state s stated.0 asked read f stated.3
  stated_on_alone (inr other) = subst (IsOfTrace asked) (sym other.1) (bad_alone asked)

  pub stated_on_file : IsAnswerOn ops scheme first_state s asked read f → WhereProof (λ form file. IsFileOn ops scheme first_state s form read file) f
  unfolding IsAnswerOn IsFileOn
  stated_on_file (inl stated) = λ form proof. (stated.0, stated.1, stated.2, at_height_file ops begins scheme first_state s stated.0 asked read f stated.3 form proof)
  stated_on_file (inr other) = λ form proof. absurd (bad_no_proof f other.1 form proof)
