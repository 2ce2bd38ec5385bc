-- A prover's proof is accepted with the AIR's own key, where a check finds its trace satisfying.
use Rattle.std.proofs.Common.{◌≡◌, ◌∙◌, ap, arith, refl, sym, subst, ℕ, ◌*◌, ◌^◌, ◌<◌, ◌≤◌, ◌==◌, Bool, true, false, List, length, Option, None, Some, IfSome, option_map, Result, Ok, Err, IfOk}
use Rattle.std.specs.Prelude.{option_and_then}
use Rattle.std.proofs.lemmas.Bool.{eq-eqb, ltb-true}
use Rattle.std.proofs.lemmas.List.{length-map}
use Rattle.stark_support.specs.Ring.{RingOps}
use Rattle.stark_support.specs.Scheme.{SchemeOps}
use Rattle.stark_completeness.proofs.HeightSteps.{rows_are}
use Rattle.stark_support.specs.LogarithmFacts.{same_exponent}
use Rattle.stark_air.specs.Declaration.{Trace}
use Rattle.stark_transcript.specs.Shape.{opens_next_row}
use Rattle.stark_transcript.specs.declared.error.ProvingError.{ProvingError}
use Rattle.stark_proof.specs.ProofJson.{openings_rule_fault, rule_fault}
use Rattle.stark_proof.specs.ProofView.{ProofView, proof_view}
use Rattle.stark_proof.specs.declared.values.Proof.{Proof}
use Rattle.stark_protocol.specs.Acceptance.{challenges}
use Rattle.stark_protocol.specs.Instance.{Instance, ProtocolOps}
use Rattle.stark_protocol.specs.OpenedClaims.{next_point}
use Rattle.stark_protocol.specs.Preprocessing.{IsSetUp, has_columns}
use Rattle.stark_protocol.specs.declared.preprocessed.PreprocessedProverData.{PreprocessedProverData}
use Rattle.stark_protocol.specs.declared.preprocessed.PreprocessedVerifierKey.{PreprocessedVerifierKey}
use Rattle.stark_prover.specs.Completeness.{AreSetUp, IsAcceptedIfSatisfied}
use Rattle.stark_prover.specs.ProofOfTrace.{IsProofOfTrace, key_of, row_if, true_preprocessed, values_at}
use Rattle.stark_prover.proofs.CompletenessSteps.{within_field}
use Rattle.stark_answers.specs.Completeness.{IsAcceptedWithKey, IsComplete}
use Rattle.stark_answers.specs.Verify.{IsKey}

-- ---- the rule of the opened preprocessed rows

not_zero : (n : ℕ) → 0 < n → (n == 0) ≡ false
not_zero n some = grind (arith, some)

-- Rows of as many values, at least one, keep it.
rows_ruled : {E : Type 0} (reads_next : Bool) (local next : List E) → 0 < length local → length next ≡ length local → rule_fault (Some local) (row_if reads_next next) ≡ None
rows_ruled true local next some same = rw (not_zero (length local) some, eq-eqb (length next) (length local) same) refl
rows_ruled false local next some same = rw (not_zero (length local) some) refl

-- ---- a set-up at the trace's height

-- A trace has one height.
pub same_height : (values width height other : ℕ) → 0 < width → values ≡ 2 ^ height * width → values ≡ 2 ^ other * width → height ≡ other
same_height values width height other some is also = same_exponent height other (sym (rows_are values width height some is) ∙ rows_are values width other some also)

-- Columns that are there have a width.
pub some_wide : {F : Type 0} (declared : Option (Trace F)) (trace : Trace F) → declared ≡ Some trace → true ≡ has_columns declared → 0 < trace.width
some_wide declared trace is there = ltb-true 0 trace.width (sym (there ∙ ap has_columns is))

module _ {S F E C K T P X Y : Type 0} (ops : ProtocolOps S F E C K T P X Y) (coordinates : E → List F) where
  data_ruled : (i : Instance S F C K) (preprocessed : List (List F)) (zeta next_zeta : E) (preprocessed_data : Option (PreprocessedProverData K T)) → IfSome preprocessed_data (λ _. 0 < length preprocessed)
      → rule_fault (option_map (λ rows. rows.local) (option_map (true_preprocessed ops i preprocessed zeta next_zeta) (option_map key_of preprocessed_data)))
      (option_and_then (λ rows. rows.next) (option_map (true_preprocessed ops i preprocessed zeta next_zeta) (option_map key_of preprocessed_data))) ≡ None
  data_ruled i preprocessed zeta next_zeta None some = refl
  data_ruled i preprocessed zeta next_zeta (Some held) some =
      let wide : (x : E) → length (values_at ops i preprocessed x) ≡ length preprocessed = λ x. length-map preprocessed _ in
      rows_ruled (opens_next_row i.preprocessed_next_columns) (values_at ops i preprocessed zeta) (values_at ops i preprocessed next_zeta) (subst (λ n. 0 < n) (sym (wide zeta)) some) (wide next_zeta ∙ sym (wide zeta))

  -- The opened values of a trace's proof keep it.
  openings_ruled : (i : Instance S F C K) (preprocessed_data : Option (PreprocessedProverData K T)) (height : ℕ) (trace : Trace F) (preprocessed : List (List F)) (p : ProofView K E P F) → IsProofOfTrace ops i coordinates preprocessed_data height trace preprocessed p
      → IfSome preprocessed_data (λ _. 0 < length preprocessed) → openings_rule_fault p.opened_values ≡ None
  openings_ruled i preprocessed_data height trace preprocessed p made some =
      let next_zeta = next_point ops.opening p.degree_bits made.zeta in
      ap openings_rule_fault made.opened
      ∙ ap (λ key. rule_fault (option_map (λ rows. rows.local) (option_map (true_preprocessed ops i preprocessed made.zeta next_zeta) key)) (option_and_then (λ rows. rows.next) (option_map (true_preprocessed ops i preprocessed made.zeta next_zeta) key))) made.key
      ∙ data_ruled i preprocessed made.zeta next_zeta preprocessed_data some

  module _ (log_rows : ℕ) (scheme : S) (declared : Option (Trace F)) (instance : Option (PreprocessedVerifierKey K) → Instance S F C K) (preprocessed_data : Option (PreprocessedProverData K T)) (key : Option (PreprocessedVerifierKey K)) (trace : Trace F)
      (preprocessed : List (List F)) (is_key : IsKey ops log_rows scheme declared key) (same : key ≡ option_map key_of preprocessed_data) (some : IfSome preprocessed_data (λ _. 0 < length preprocessed))
      (set_up : (height : ℕ) → length trace.values ≡ 2 ^ height * trace.width → AreSetUp ops.opening (instance key).scheme height declared preprocessed_data key) where
    drawn_with_key : (p : ProofView K E P F) (alpha zeta : E) → (challenges ops (instance (option_map key_of preprocessed_data)) p).answer ≡ Ok (alpha, zeta) → (challenges ops (instance key) p).answer ≡ Ok (alpha, zeta)
    drawn_with_key p alpha zeta drawn = subst (λ k. (challenges ops (instance k) p).answer ≡ Ok (alpha, zeta)) (sym same) drawn

    accepted_with_key : (height : ℕ) → length trace.values ≡ 2 ^ height * trace.width → (p : ProofView K E P F) → IsProofOfTrace ops (instance (option_map key_of preprocessed_data)) coordinates preprocessed_data height trace preprocessed p
        → IsAcceptedIfSatisfied ops instance declared preprocessed_data height trace p → IsAcceptedWithKey ops log_rows scheme declared instance height trace p
    accepted_with_key height rows p made complete = record {
      degree_bits = made.degree_bits;
      ruled = openings_ruled (instance (option_map key_of preprocessed_data)) preprocessed_data height trace preprocessed p made some;
      key = key;
      is_key = is_key;
      alpha = made.alpha;
      zeta = made.zeta;
      drawn = drawn_with_key p made.alpha made.zeta made.drawn;
      accepted = λ checked sized outside.
          complete key (set_up height rows) (checked height rows (within_field ops (instance (option_map key_of preprocessed_data)) coordinates preprocessed_data height trace preprocessed p made)) sized
          made.alpha made.zeta (drawn_with_key p made.alpha made.zeta made.drawn) outside;
    }

    -- It is so of the answer.
    pub complete_answer : ops.opening.scheme.log_min_trace_height scheme ≡ 0 → ops.opening.scheme.IsComplete scheme → (answer : Result (Proof K E P F) (ProvingError Y))
        → IfOk answer (λ proof. (h : ℕ) → length trace.values ≡ 2 ^ h * trace.width → IsProofOfTrace ops (instance (option_map key_of preprocessed_data)) coordinates preprocessed_data h trace preprocessed (proof_view proof))
        → IfOk answer (λ proof. (h : ℕ) → length trace.values ≡ 2 ^ h * trace.width → ops.opening.scheme.log_min_trace_height scheme ≤ h → ops.opening.scheme.IsComplete scheme
        → IsAcceptedIfSatisfied ops instance declared preprocessed_data h trace (proof_view proof))
        → IsComplete ops log_rows scheme declared instance trace answer
    complete_answer lowest whole (Ok proof) made complete = λ height rows. accepted_with_key height rows (proof_view proof) (made height rows) (complete height rows (omega arith) whole)
    complete_answer lowest whole (Err error) made complete = tt

module _ {S F E C K T P X Y : Type 0} {scheme : SchemeOps S F E C K T P X Y} {s : S} {field : RingOps F} {root : ℕ → F} {is_zk : Bool} {log_rows : ℕ} {columns : Trace F} {prover : PreprocessedProverData K T} {key : PreprocessedVerifierKey K}
    (set : IsSetUp scheme s field root is_zk log_rows columns prover key) where
  -- What was set up for 2 ^ log_rows rows is set up for those of a trace of the same height.
  pub set_up_at : (trace : Trace F) (own : ℕ) → length trace.values ≡ 2 ^ own * trace.width → 0 < trace.width → own ≡ log_rows
      → (height : ℕ) → length trace.values ≡ 2 ^ height * trace.width → IsSetUp scheme s field root is_zk height columns prover key
  set_up_at trace own has wide is height rows =
      let same : log_rows ≡ height = sym is ∙ same_height (length trace.values) trace.width own height wide has rows in
      subst (λ n. IsSetUp scheme s field root is_zk n columns prover key) same set

  -- The columns of a set-up that was made have a width.
  pub some_set_up : (declared : Option (Trace F)) → declared ≡ Some columns → true ≡ has_columns declared → 0 < length set.columns
  some_set_up declared declares there = subst (λ n. 0 < n) (sym set.takes.count) (some_wide declared columns declares there)
