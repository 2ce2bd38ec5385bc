-- A prover's answer is accepted where its trace satisfies the AIR.
use Rattle.std.proofs.Common.{◌≡◌, ◌∙◌, ap, arith, refl, sym, subst, ℕ, ◌+◌, ◌*◌, ◌≤◌, false, List, [], drop, Option, None, Some, option_map}
use Rattle.std.specs.Prelude.{◌⊎◌, IfErr, IfOk, IfSome, Result, Ok, Err, take}
use Rattle.std.proofs.lemmas.Bool.{ltb-false}
use Rattle.stark_support.specs.Coset.{TwoAdicCoset}
use Rattle.stark_support.specs.JoinedRows.{cut}
use Rattle.stark_support.specs.Ring.{RingOps}
use Rattle.stark_support.specs.Scheme.{SchemeLaws, TakesRows, matrix_row, natural_coset, zk_bits}
use Rattle.stark_air.specs.Declaration.{IsDeclared, Trace}
use Rattle.stark_air.specs.Layout.{LeavesWithin}
use Rattle.stark_completeness.specs.CommittedQuotient.{AreLawful}
use Rattle.stark_transcript.specs.declared.error.ProvingError.{ProvingError}
use Rattle.stark_proof.specs.ProofView.{ProofView}
use Rattle.stark_protocol.specs.Acceptance.{IsPointOfH, log_parts}
use Rattle.stark_support.specs.SchemeClauses.{OpeningOps}
use Rattle.stark_protocol.specs.Instance.{Instance, ProtocolOps, log_height as committed_from}
use Rattle.stark_protocol.specs.Preprocessing.{has_columns}
use Rattle.stark_protocol.specs.declared.preprocessed.PreprocessedProverData.{PreprocessedProverData}
use Rattle.stark_protocol.specs.declared.preprocessed.PreprocessedVerifierKey.{PreprocessedVerifierKey}
use Rattle.stark_protocol.specs.AcceptanceFacts.{same_drawn}
use Rattle.stark_parts.specs.SizingLaw.{HasSmallBound}
use Rattle.stark_quotient.specs.PointwiseQuotient.{matrix_or_empty}
use Rattle.stark_prover.specs.Acceptable.{IsAcceptable}
use Rattle.stark_prover.specs.CommittedColumns.{IsPreprocessedCommitment}
use Rattle.stark_prover.specs.Completeness.{AreSetUp, HasSizedDegrees, IsAcceptedIfSatisfied, IsAcceptedOutside, IsSatisfied, declared_row}
use Rattle.stark_prover.specs.ProofOfTrace.{IsProofOfTrace, key_of}
use Rattle.stark_prover.specs.ProverFault.{ProverFault}
use Rattle.stark_prover.specs.SetUpFacts.{key_of_set_up, stands_for_set_up}
use Rattle.stark_prover.proofs.CompletenessSteps.{accepted_of_balanced, proof_of_trace_is_balanced, satisfied_in_each_row}

-- No columns take the rows of a trace without columns.
no_columns : {F : Type 0} (base : RingOps F) (root : ℕ → F) (coset : TwoAdicCoset F) (values : List F) (width : ℕ) → width ≡ 0 → TakesRows base root coset width (matrix_row values width) []
no_columns base root coset values width none = record { count = sym none; rows = λ r below. cut values width r ∙ ap (λ w. take w (drop (r * width) values)) none }

none_taken : {F : Type 0} (base : RingOps F) (root : ℕ → F) (coset : TwoAdicCoset F) (declared : Option (Trace F)) → has_columns declared ≡ false → TakesRows base root coset (matrix_or_empty declared).width (declared_row declared) []
none_taken base root coset None none = no_columns base root coset [] 0 refl
none_taken base root coset (Some trace) none = no_columns base root coset trace.values trace.width (let least : trace.width ≤ 0 = ltb-false 0 trace.width none in omega arith)

-- What a prover holds of a set-up stands for columns that take the declared rows, and its key corresponds to it.
record IsDataOfSetUp {S F E C K T P X Y : Type 0} (ops : OpeningOps S F E C K T P X Y) (s : S) (height : ℕ) (declared : Option (Trace F)) (preprocessed_data : Option (PreprocessedProverData K T)) (key : Option (PreprocessedVerifierKey K)) : Type 0 where
  preprocessed : List (List F)
  stands : IsPreprocessedCommitment ops.scheme s ops.fields.base preprocessed preprocessed_data
  takes : TakesRows ops.fields.base ops.fields.root (natural_coset ops.fields.base height) (matrix_or_empty declared).width (declared_row declared) preprocessed
  same_key : key ≡ option_map key_of preprocessed_data

of_set_up : {S F E C K T P X Y : Type 0} (ops : OpeningOps S F E C K T P X Y) (s : S) (height : ℕ) (declared : Option (Trace F)) (preprocessed_data : Option (PreprocessedProverData K T)) (key : Option (PreprocessedVerifierKey K))
    → AreSetUp ops s height declared preprocessed_data key → IsDataOfSetUp ops s height declared preprocessed_data key
of_set_up ops s height declared None None none = record { preprocessed = []; stands = refl; takes = none_taken ops.fields.base ops.fields.root (natural_coset ops.fields.base height) declared none; same_key = refl }
of_set_up ops s height declared None (Some key) none = absurd none
of_set_up ops s height declared (Some prover) None none = absurd none
of_set_up {F = F} ops s height declared (Some prover) (Some key) set =
    record {
      preprocessed = set.2.columns;
      stands = stands_for_set_up set.2;
      takes = subst (λ (d : Option (Trace F)). TakesRows ops.fields.base ops.fields.root (natural_coset ops.fields.base height) (matrix_or_empty d).width (declared_row d) set.2.columns) (sym set.1) set.2.takes;
      same_key = ap (λ k. Some k) (key_of_set_up set.2);
    }

module _ {S F E C K T P X Y : Type 0} (ops : ProtocolOps S F E C K T P X Y) (i : Option (PreprocessedVerifierKey K) → Instance S F C K) (coordinates : E → List F) (preprocessed_data : Option (PreprocessedProverData K T)) (declared : Option (Trace F)) (log_height : ℕ) (trace : Trace F)
    (lawful : AreLawful ops.opening.fields coordinates) (laws : SchemeLaws ops.opening.scheme) (leaves : LeavesWithin (i (option_map key_of preprocessed_data)).layout (i (option_map key_of preprocessed_data)).constraints)
    (is_declared : IsDeclared (i (option_map key_of preprocessed_data)).layout declared (i (option_map key_of preprocessed_data)).periodic_columns (i (option_map key_of preprocessed_data)).main_next_columns (i (option_map key_of preprocessed_data)).preprocessed_next_columns)
    (data_degree : (height : ℕ) → log_height ≡ height → IfSome preprocessed_data (λ h. h.degree_bits ≡ height + zk_bits ops.opening.is_zk)) (same_scheme : (key : Option (PreprocessedVerifierKey K)) → (i key).scheme ≡ (i (option_map key_of preprocessed_data)).scheme) where
  abbrev own : Instance S F C K
  own = i (option_map key_of preprocessed_data)

  -- With the key that corresponds to the data.
  with_own_key : {p : ProofView K E P F} (preprocessed : List (List F)) → TakesRows ops.opening.fields.base ops.opening.fields.root (natural_coset ops.opening.fields.base log_height) (matrix_or_empty declared).width (declared_row declared) preprocessed
      → IsProofOfTrace ops own coordinates preprocessed_data log_height trace preprocessed p → IsAcceptable ops own p → IsSatisfied ops own log_height declared trace → HasSizedDegrees ops own log_height → IsAcceptedOutside ops own p
  with_own_key {p = p} preprocessed takes made acceptable satisfied sized = λ alpha zeta drawn outside.
      let zeta_is = (same_drawn _ made.alpha made.zeta alpha zeta made.drawn drawn).1 in
      accepted_of_balanced ops own coordinates preprocessed_data log_height trace preprocessed p made acceptable (subst (λ z. IsPointOfH ops.opening.fields (committed_from ops.opening.is_zk p.degree_bits) z → ⊥) (sym zeta_is) outside)
      (proof_of_trace_is_balanced ops own coordinates preprocessed_data log_height trace preprocessed p made lawful laws leaves declared is_declared (subst (λ n. IfSome preprocessed_data (λ h. h.degree_bits ≡ n)) (sym made.degree_bits) (data_degree log_height refl))
      (satisfied_in_each_row ops own coordinates preprocessed_data log_height trace preprocessed p made lawful leaves (matrix_or_empty declared).width (declared_row declared) takes satisfied)
      (subst (λ n. HasSmallBound own.constraints log_height n (log_parts ops own p)) (sym made.degree_bits) sized))

  at_own_height : {p : ProofView K E P F} → ((preprocessed : List (List F)) → IsPreprocessedCommitment ops.opening.scheme own.scheme ops.opening.fields.base preprocessed preprocessed_data → IsProofOfTrace ops own coordinates preprocessed_data log_height trace preprocessed p) → IsAcceptable ops own p
      → IsAcceptedIfSatisfied ops i declared preprocessed_data log_height trace p
  at_own_height {p = p} made acceptable = λ key set.
      let of = of_set_up ops.opening (i key).scheme log_height declared preprocessed_data key set in
      subst (λ (k : Option (PreprocessedVerifierKey K)). IsSatisfied ops (i k) log_height declared trace → HasSizedDegrees ops (i k) log_height → IsAcceptedOutside ops (i k) p) (sym of.same_key)
      (with_own_key of.preprocessed of.takes (made of.preprocessed (subst (λ s. IsPreprocessedCommitment ops.opening.scheme s ops.opening.fields.base of.preprocessed preprocessed_data) (same_scheme key) of.stands)) acceptable)

  -- Where the answer is a proof, and for each height that the trace has.
  pub answer_accepted : {R : Type 0} (view : R → ProofView K E P F) (IsHeight Least IsComplete : ℕ → Type 0) → ((height : ℕ) → IsHeight height → log_height ≡ height) → (r : Result R (ProvingError Y))
      → IfOk r (λ proof. (preprocessed : List (List F)) → IsPreprocessedCommitment ops.opening.scheme own.scheme ops.opening.fields.base preprocessed preprocessed_data → IsProofOfTrace ops own coordinates preprocessed_data log_height trace preprocessed (view proof))
      → IfOk r (λ proof. (height : ℕ) → IsHeight height → Least height → IsComplete height → IsAcceptable ops own (view proof))
      → IfOk r (λ proof. (height : ℕ) → IsHeight height → Least height → IsComplete height → IsAcceptedIfSatisfied ops i declared preprocessed_data height trace (view proof))
  answer_accepted view IsHeight Least IsComplete known (Ok proof) made acceptable = λ height is_height least complete.
      subst (λ n. IsAcceptedIfSatisfied ops i declared preprocessed_data n trace (view proof)) (known height is_height) (at_own_height made (acceptable height is_height least complete))
  answer_accepted view IsHeight Least IsComplete known (Err error) made acceptable = tt

-- ---- at each height that a trace has

pub degree_at : {K T : Type 0} (preprocessed_data : Option (PreprocessedProverData K T)) (zk log_height : ℕ) (IsHeight : ℕ → Type 0) → ((height : ℕ) → IsHeight height → log_height ≡ height) → (obtained : ℕ) → IsHeight obtained → IfSome preprocessed_data (λ h. h.degree_bits ≡ obtained + zk)
    → (height : ℕ) → log_height ≡ height → IfSome preprocessed_data (λ h. h.degree_bits ≡ height + zk)
degree_at preprocessed_data zk log_height IsHeight known obtained is_found degree = λ height same. subst (λ n. IfSome preprocessed_data (λ h. h.degree_bits ≡ n + zk)) (sym (known obtained is_found) ∙ same) degree

pub fault_at_heights : {S F E C K T P X Y : Type 0} (ops : ProtocolOps S F E C K T P X Y) (i : Instance S F C K) (coordinates : E → List F) (preprocessed_data : Option (PreprocessedProverData K T)) (log_height : ℕ) (trace : Trace F)
    (IsHeight : ℕ → Type 0) → ((height : ℕ) → IsHeight height → log_height ≡ height) → {R : Type 0} (r : Result R (ProvingError Y))
    → IfErr r (λ error. (error ≡ ProvingError.OutOfMemory) ⊎ ProverFault ops i coordinates preprocessed_data log_height (log_height + zk_bits ops.opening.is_zk) trace error)
    → IfErr r (λ error. (height : ℕ) → IsHeight height → (error ≡ ProvingError.OutOfMemory) ⊎ ProverFault ops i coordinates preprocessed_data height (height + zk_bits ops.opening.is_zk) trace error)
fault_at_heights ops i coordinates preprocessed_data log_height trace IsHeight known (Ok proof) fault = tt
fault_at_heights ops i coordinates preprocessed_data log_height trace IsHeight known (Err error) fault = λ height is_height.
    subst (λ n. (error ≡ ProvingError.OutOfMemory) ⊎ ProverFault ops i coordinates preprocessed_data n (n + zk_bits ops.opening.is_zk) trace error) (known height is_height) fault
