-- From what was read of a statement, a proof and a trace to what is said of them.
use Rattle.std.proofs.Common.{◌≡◌, ◌⊎◌, ◌∙◌, inl, inr, ap, refl, subst, sym, ℕ, Bool, true, false, List, ◌++◌, drop, length, map, Option, None, Some, IfSome, Result, Ok, Err, option_map}
use Rattle.std.specs.Prelude.{filter_map, if◌then◌else◌, nat_eq}
use Rattle.std.specs.List.{starts_with}
use Rattle.std.specs.Str.{is_utf8}
use Rattle.std.proofs.lemmas.Bool.Decides.{Decides-eqb}
use Rattle.std.proofs.lemmas.List.{length-map}
use Rattle.std.proofs.lemmas.Slice.Eq.{starts_is}
use Rattle.serde_json.specs.Read.{read}
use Rattle.serde_json.proofs.OnLiterals.{serde_json_on_literals}
use Rattle.stark_support.specs.Json.{json_of}
use Rattle.stark_support.specs.declared.json.JsonFault.TheVariants.{OutOfMemory}
use Rattle.stark_air.specs.Declaration.{Trace}
use Rattle.stark_transcript.specs.declared.error.ProvingError.{ProvingError}
use Rattle.stark_transcript.specs.declared.error.VerificationError.{VerificationError}
use Rattle.stark_proof.specs.ProofView.{ProofView, proof_view}
use Rattle.stark_proof.specs.declared.values.Proof.{Proof}
use Rattle.stark_proof_bytes.specs.ProofBytes.{magic}
use Rattle.stark_prover.specs.ProofOfTrace.{key_of}
use Rattle.stark_tree_air.specs.FaultFacts.{tree_air_declared, tree_air_within}
use Rattle.stark_tree_air.specs.Faults.{main_next_column, preprocessed_next_column, tree_air_fault, tree_layout}
use Rattle.stark_tree_air.specs.Nodes.{spelled}
use Rattle.stark_tree_air.specs.Traces.{declared_trace}
use Rattle.stark_tree_air.specs.TreeJson.{air_view}
use Rattle.stark_tree_air.specs.declared.columns.TreeDeclaration.{TreeDeclaration}
use Rattle.stark_tree_air.specs.declared.list.TreeList.{TreeList}
use Rattle.stark_statement.specs.StatementJson.{StatementFault}
use Rattle.stark_statement.specs.StatementView.{StatementView}
use Rattle.stark_answers.specs.CheckedAir.{CheckedAir, checked_air, shape_of}
use Rattle.stark_answers.specs.Finding.{unjudged_finding}
use Rattle.stark_answers.specs.Prove.{AnswersWithData, HasNoFloat, IsProved, IsWritten, OrNoMemory, TellsAnswer}
use Rattle.stark_answers.specs.Refusals.{verdict_of_answer}
use Rattle.stark_answers.specs.TraceShape.{FitsShape, trace_of}
use Rattle.stark_answers.specs.Verdict.{unjudged}
use Rattle.stark_answers.specs.Verify.{IsAnswerWithKey, IsVerdict, instance_of}
use Rattle.stark_answers.specs.declared.finding.Finding.{Finding}
use Rattle.stark_answers.specs.declared.finding.Finding.TheVariants as finding
use Rattle.stark_answers.specs.declared.shape.CheckShape.{CheckShape}
use Rattle.stark_answers.specs.declared.task.ProofForm.{ProofForm}
use Rattle.stark_answers.specs.declared.verdict.Verdict.{Verdict}
use Rattle.stark_answers.specs.declared.verdict.Verdict.TheVariants as verdict
use Rattle.stark_answers.specs.declared.verdict.Refusal.{Refusal}
use Rattle.stark_answers.specs.declared.verdict.Refusal.TheVariants as refusal
use Rattle.stark_answers.proofs.Proved.{is_proved, written_exactly}
use Rattle.stark_answers.proofs.VerdictSteps.{is_verdict}
use Rattle.stark_service.specs.StatementAir.{declared_of}
use Rattle.stark_service.specs.Service.{ServiceOps, proof_file}
use Rattle.stark_transcript.specs.declared.error.InvalidProofShapeError.{InvalidProofShapeError}
use Rattle.stark_service.specs.Heights.{UnlessOfOtherHeight, height_fault}
use Rattle.stark_service.specs.Statements.{IsFoundWithRows, IsSaidOfNone, IsVerdictWithRows, PassesLimit, ReadsDeclared, too_large, verdict_without}

-- ---- an AIR that is data

-- What an AIR that is data declares.
abbrev pub tree_checked : {F : Type 0} → TreeDeclaration F → TreeList F → CheckedAir F
tree_checked declaration list = checked_air
    (tree_layout declaration.columns list.nodes.items)
    (filter_map main_next_column list.nodes.items)
    (map (λ column. column.items) declaration.columns.periodic_columns.items)
    declaration.max_constraint_degree
    (spelled list.constants.items list.nodes.items list.constraints.items)
    (declared_trace declaration.columns.preprocessed_trace)
    (filter_map preprocessed_next_column list.nodes.items)

-- Its view declares the same.
pub same_declared : {F : Type 0} (declaration : TreeDeclaration F) (list : TreeList F) → tree_checked declaration list ≡ declared_of (air_view declaration list)
unfolding declared_of
same_declared declaration list =
    ap (λ (count : ℕ). checked_air
    (record (tree_layout declaration.columns list.nodes.items) { periodics = count })
    (filter_map main_next_column list.nodes.items)
    (map (λ column. column.items) declaration.columns.periodic_columns.items)
    declaration.max_constraint_degree
    (spelled list.constants.items list.nodes.items list.constraints.items)
    (declared_trace declaration.columns.preprocessed_trace)
    (filter_map preprocessed_next_column list.nodes.items)) (sym (length-map declaration.columns.periodic_columns.items (λ column. column.items)))

-- It reads what it declares, where its nodes have no fault.
pub reads_declared : {F : Type 0} (declaration : TreeDeclaration F) (list : TreeList F) → tree_air_fault declaration.columns list.constants.items list.nodes.items list.constraints.items ≡ None → ReadsDeclared (declared_of (air_view declaration list))
reads_declared declaration list sound = subst ReadsDeclared (same_declared declaration list) (record {
  within = tree_air_within declaration.columns list.constants.items list.nodes.items list.constraints.items sound;
  counted = tree_air_declared declaration.columns list.nodes.items;
})

-- ---- want of memory

kept_refusal : (why : Refusal) → (unjudged (verdict.Refused why) ≡ verdict.OutOfMemory) ⊎ (unjudged (verdict.Refused why) ≡ verdict.Refused why)
kept_refusal refusal.OodEvaluationMismatch = inr refl
kept_refusal refusal.OodPointInDomain = inr refl
kept_refusal refusal.PeriodicColumn = inr refl
kept_refusal refusal.QuotientDomainTooLarge = inr refl
kept_refusal refusal.Pcs = inr refl
kept_refusal refusal.GrindExhausted = inr refl
kept_refusal refusal.AirTooLarge = inr refl
kept_refusal refusal.OutOfMemory = inl refl
kept_refusal (refusal.InvalidProofShape fault) = inr refl
kept_refusal refusal.InvalidOpeningArgument = inr refl
kept_refusal refusal.RandomizationError = inr refl
kept_refusal refusal.NextPointUnavailable = inr refl
kept_refusal refusal.InvalidAlphaPowWitness = inr refl
kept_refusal refusal.InvalidOodPowWitness = inr refl

-- A verdict is kept, unless an allocation failed.
kept_verdict : (v : Verdict) → (unjudged v ≡ verdict.OutOfMemory) ⊎ (unjudged v ≡ v)
kept_verdict verdict.Accepted = inr refl
kept_verdict (verdict.Refused why) = kept_refusal why
kept_verdict verdict.BadInput = inr refl
kept_verdict verdict.OutOfMemory = inr refl

pub said_unjudged : (P : Verdict → Type 0) (v w : Verdict) → w ≡ unjudged v → (v ≡ verdict.Refused refusal.OutOfMemory) ⊎ P v → (w ≡ verdict.OutOfMemory) ⊎ P w
said_unjudged P v w is (inl memory) = inl (is ∙ ap unjudged memory)
said_unjudged P v w is (inr said) = elim (kept_verdict v) [
  | inl memory ↦ inl (is ∙ memory)
  | inr same ↦ inr (subst P (sym (is ∙ same)) said)
]

kept_finding : (f : Finding) → (unjudged_finding f ≡ finding.Verdict verdict.OutOfMemory) ⊎ (unjudged_finding f ≡ f)
kept_finding (finding.Verdict v) = elim (kept_verdict v) [
  | inl memory ↦ inl (ap (λ w. finding.Verdict w) memory)
  | inr same ↦ inr (ap (λ w. finding.Verdict w) same)
]
kept_finding (finding.Proof line) = inr refl
kept_finding (finding.ProofBytes bytes) = inr refl
kept_finding (finding.Text text) = inr refl
kept_finding finding.Satisfied = inr refl
kept_finding (finding.Broken row) = inr refl
kept_finding (finding.TooFewBits line) = inr refl

found_unjudged : (P : Finding → Type 0) (f g : Finding) → g ≡ unjudged_finding f → (f ≡ finding.Verdict (verdict.Refused refusal.OutOfMemory)) ⊎ P f → (g ≡ finding.Verdict verdict.OutOfMemory) ⊎ P g
found_unjudged P f g is (inl memory) = inl (is ∙ ap unjudged_finding memory)
found_unjudged P f g is (inr obtained) = elim (kept_finding f) [
  | inl memory ↦ inl (is ∙ memory)
  | inr same ↦ inr (subst P (sym (is ∙ same)) obtained)
]

-- ---- a proof that was read

module _ {S F E C K T P X Y : Type 0} (ops : ServiceOps S F E C K T P X Y) (scheme : S) (first_state : C) (s : StatementView F) (log_rows : ℕ) (read : Option (ProofView K E P F)) where
  -- What is said of the proof that was read is said of the file.
  pub verdict_of_read : (air : CheckedAir F) (p : ProofView K E P F) (public_values : List F) (ood_bits alpha_bits : ℕ) (answer : Result (Unit {0}) (VerificationError X)) (v w : Verdict) → height_fault s.log_height p.degree_bits ≡ None → read ≡ Some p → air ≡ declared_of s.air → public_values ≡ s.public_values
      → ood_bits ≡ s.ood_bits → alpha_bits ≡ s.alpha_bits → v ≡ verdict_of_answer answer → w ≡ unjudged v
      → IsAnswerWithKey ops.protocol log_rows scheme air.preprocessed_trace (λ key. instance_of air scheme first_state ood_bits alpha_bits public_values key) p answer
      → (w ≡ verdict.OutOfMemory) ⊎ IsVerdictWithRows ops scheme first_state s log_rows read w
  unfolding IsVerdictWithRows
  verdict_of_read air p public_values ood_bits alpha_bits answer v w fixed is declares lists asks asks_first says unless obtained =
      subst (λ r. (w ≡ verdict.OutOfMemory) ⊎ IsVerdictWithRows ops scheme first_state s log_rows r w) (sym is)
      (subst (λ fault. (w ≡ verdict.OutOfMemory)
      ⊎ UnlessOfOtherHeight fault (λ u. IsVerdict ops.protocol log_rows scheme first_state (declared_of s.air) p s.public_values s.ood_bits s.alpha_bits u) w) (sym fixed)
      (subst (λ a. (w ≡ verdict.OutOfMemory) ⊎ IsVerdict ops.protocol log_rows scheme first_state a p s.public_values s.ood_bits s.alpha_bits w) declares
      (subst (λ ps. (w ≡ verdict.OutOfMemory) ⊎ IsVerdict ops.protocol log_rows scheme first_state air p ps s.ood_bits s.alpha_bits w) lists
      (said_unjudged (λ u. IsVerdict ops.protocol log_rows scheme first_state air p public_values s.ood_bits s.alpha_bits u) v w unless
      (is_verdict ops.protocol log_rows air scheme scheme first_state first_state ood_bits s.ood_bits alpha_bits s.alpha_bits public_values p answer v says refl refl asks asks_first obtained)))))

  -- A proof of another height than the statement fixes is refused for it.
  pub verdict_of_other_height : (p : ProofView K E P F) (fault : InvalidProofShapeError) (w : Verdict) → read ≡ Some p → height_fault s.log_height p.degree_bits ≡ Some fault
      → w ≡ verdict.Refused (refusal.InvalidProofShape fault) → (w ≡ verdict.OutOfMemory) ⊎ IsVerdictWithRows ops scheme first_state s log_rows read w
  unfolding IsVerdictWithRows
  verdict_of_other_height p fault w is other refuses =
      inr (subst (λ r. IsVerdictWithRows ops scheme first_state s log_rows r w) (sym is)
      (subst (λ found. UnlessOfOtherHeight found (λ u. IsVerdict ops.protocol log_rows scheme first_state (declared_of s.air) p s.public_values s.ood_bits s.alpha_bits u) w) (sym other) refuses))

  -- A file that spells none is bad input.
  pub verdict_without_proof : (w : Verdict) → (w ≡ verdict.OutOfMemory) ⊎ ((read ≡ None) × (w ≡ verdict.BadInput)) → (w ≡ verdict.OutOfMemory) ⊎ IsVerdictWithRows ops scheme first_state s log_rows read w
  unfolding IsVerdictWithRows
  verdict_without_proof w (inl memory) = inl memory
  verdict_without_proof w (inr bad) = inr (subst (λ r. IsVerdictWithRows ops scheme first_state s log_rows r w) (sym bad.0) bad.1)

-- ---- rows that were read

module _ {S F E C K T P X Y : Type 0} (ops : ServiceOps S F E C K T P X Y) (no_float : HasNoFloat ops.writing) (form : ProofForm) (scheme : S) (first_state : C) (s : StatementView F) (log_rows : ℕ) (rows : List (List F)) where
  abbrev most : ℕ
  most = ops.protocol.opening.scheme.log_max_trace_height scheme

  -- What a prover finds of rows in the AIR's widths and counts.
  pub found_shaped : (air : CheckedAir F) (shape : CheckShape) (height : ℕ) (trace : Trace F) (public_values : List F) (ood_bits alpha_bits : ℕ) (answer : Result (Proof K E P F) (ProvingError Y)) (f g : Finding) → shape ≡ shape_of air → air ≡ declared_of s.air
      → FitsShape shape log_rows most rows public_values height → trace ≡ trace_of air.layout.main rows → public_values ≡ s.public_values → ood_bits ≡ s.ood_bits → alpha_bits ≡ s.alpha_bits
      → OrNoMemory (TellsAnswer (λ proof g. IsWritten ops.writing ops.codecs form (proof_view proof) g) answer) f → g ≡ unjudged_finding f
      → AnswersWithData ops.protocol ops.coordinates log_rows scheme air.preprocessed_trace (λ preprocessed_data. instance_of air scheme first_state ood_bits alpha_bits public_values (option_map key_of preprocessed_data)) height trace answer
      → (g ≡ finding.Verdict verdict.OutOfMemory) ⊎ IsFoundWithRows ops scheme first_state s form log_rows (Some rows) g
  unfolding IsFoundWithRows
  found_shaped air shape height trace public_values ood_bits alpha_bits answer f g same declares fits is lists asks asks_first tells unless answers =
      elim (found_unjudged (λ h. IsProved ops.protocol ops.coordinates form (proof_file ops form) log_rows scheme first_state air height trace public_values s.ood_bits s.alpha_bits h) f g unless
      (is_proved ops.protocol ops.coordinates form (proof_file ops form) _ (written_exactly ops.writing ops.codecs no_float form) log_rows air scheme scheme first_state first_state ood_bits s.ood_bits alpha_bits s.alpha_bits public_values height trace answer f refl refl asks asks_first tells answers)) [
        | inl memory ↦ inl memory
        | inr proved ↦ inr (inl (
          height,
          subst (λ a. FitsShape (shape_of a) log_rows most rows s.public_values height) declares (subst (λ k. FitsShape k log_rows most rows s.public_values height) same (subst (λ ps. FitsShape shape log_rows most rows ps height) lists fits)),
          subst (λ (a : CheckedAir F). IsProved ops.protocol ops.coordinates form (proof_file ops form) log_rows scheme first_state a height (trace_of a.layout.main rows) s.public_values s.ood_bits s.alpha_bits g) declares
              (subst (λ ps. IsProved ops.protocol ops.coordinates form (proof_file ops form) log_rows scheme first_state air height (trace_of air.layout.main rows) ps s.ood_bits s.alpha_bits g) lists
              (subst (λ t. IsProved ops.protocol ops.coordinates form (proof_file ops form) log_rows scheme first_state air height t public_values s.ood_bits s.alpha_bits g) is proved)),
        ))
      ]

-- ---- parts that weren't read

-- The report of a statement with a fault, or for want of memory.
pub unread_statement : {F : Type 0} (fault : Option StatementFault) (read : Result (StatementView F) StatementFault) (v : Verdict) → IfSome fault (λ f. read ≡ Err f) → v ≡ verdict_without fault
    → (v ≡ verdict.OutOfMemory) ⊎ IsSaidOfNone read v
unfolding IsSaidOfNone
unread_statement None read v unread is = inl is
unread_statement (Some f) read v unread is = inr (subst (λ r. IsSaidOfNone r v) (sym unread) is)

-- The report of a statement whose AIR passes a limit.
pub large_statement : {F : Type 0} (read : Result (StatementView F) StatementFault) (s : StatementView F) (v : Verdict) → read ≡ Ok s → PassesLimit s → v ≡ too_large
    → (v ≡ verdict.OutOfMemory) ⊎ IsSaidOfNone read v
unfolding IsSaidOfNone
large_statement read s v is passes large = inr (subst (λ r. IsSaidOfNone r v) (sym is) (passes, large))

-- ---- bytes that begin as those of a proof are no JSON

no_value : (rest : List ℕ) → read (magic ++ rest) ≡ None
unfolding serde_json_on_literals
no_value rest = refl

if_none : {A : Type 0} (b : Bool) (r : Option A) → r ≡ None → (if b then r else None) ≡ None
if_none true r is = is
if_none false r is = refl

pub no_json : (bytes : List ℕ) → starts_with nat_eq bytes magic ≡ true → json_of bytes ≡ None
unfolding json_of
no_json bytes begins =
    let whole : bytes ≡ magic ++ drop (length magic) bytes = (starts_is Decides-eqb bytes magic (starts_with nat_eq bytes magic) refl).0 begins in
    if_none (is_utf8 bytes) (read bytes) (ap read whole ∙ no_value (drop (length magic) bytes))
