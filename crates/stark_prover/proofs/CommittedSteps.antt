-- A prover's answer for a trace that is committed to already.
use Rattle.std.proofs.Common.{◌≡◌, ◌∙◌, refl, sym, subst, ℕ, ◌+◌, ◌≤◌, true, List, length, Option, None}
use Rattle.std.specs.Prelude.{IfErr, IfOk, Result, Ok, Err, is_some, ltb}
use Rattle.stark_support.specs.Coset.{TwoAdicCoset}
use Rattle.stark_support.specs.Scheme.{SchemeLaws, zk_bits}
use Rattle.stark_air.specs.Declaration.{IsDeclared, Trace}
use Rattle.stark_air.specs.Layout.{LeavesWithin}
use Rattle.stark_completeness.specs.CommittedQuotient.{AreLawful}
use Rattle.stark_transcript.specs.declared.error.ProvingError.{ProvingError}
use Rattle.stark_proof.specs.ProofView.{proof_view}
use Rattle.stark_proof.specs.declared.values.Proof.{Proof}
use Rattle.stark_protocol.specs.Instance.{ProtocolOps}
use Rattle.stark_protocol.specs.declared.preprocessed.PreprocessedVerifierKey.{PreprocessedVerifierKey}
use Rattle.stark_prover.specs.CommittedColumns.{IsTraceCommitment}
use Rattle.stark_prover.specs.CommittedProving.{CommittedCompleteness, IsAcceptableOfCommitted, IsCommitmentTo, IsCommitmentToSome, IsFaultOfCommitted, IsProofOfCommitted}
use Rattle.stark_prover.specs.Heights.{HoldsColumns, IsCommittedAt}
use Rattle.stark_prover.specs.ProverView.{ProverView, own_instance}
use Rattle.stark_prover.specs.Proving.{ArePreprocessedColumns}
use Rattle.stark_prover.specs.Stages.{AreDomainsOf, IsCommitted, IsFault, IsProof, IsReadyFor, columns_fault_at, domain_fault_at}
use Rattle.stark_prover.specs.declared.commit.Committed.{Committed}
use Rattle.stark_prover.specs.declared.committed.CommittedTrace.{CommittedTrace}
use Rattle.stark_prover.specs.declared.domains.ProverDomains.{ProverDomains}
use Rattle.stark_prover.proofs.AcceptableSteps.{answer_acceptable}
use Rattle.stark_prover.proofs.CompletenessAnswer.{answer_accepted, degree_at}
use Rattle.stark_prover.proofs.SizedSteps.{committed_at, fault_at, proof_at, ready_at, same_height}

module _ {S F E C K T P X Y : Type 0} (ops : ProtocolOps S F E C K T P X Y) (view : ProverView S F E C K T) (degree_bits : ℕ) (given : CommittedTrace K T) (is_height : degree_bits ≡ given.log_height + zk_bits ops.opening.is_zk)
    (fitting : columns_fault_at ops view given.log_height ≡ None) (clear : domain_fault_at ops view (given.log_height + zk_bits ops.opening.is_zk) ≡ None) where
  abbrev committed : Committed K T
  committed = record { commitment = given.commitment; prover_data = given.prover_data }

  -- The trace behind the commitment is ready for a quotient.
  ready_of : {trace : Trace F} (to : IsCommitmentTo ops view given trace) {preprocessed : List (List F)} → ArePreprocessedColumns ops view preprocessed → IsReadyFor ops view degree_bits trace to.columns preprocessed given.commitment given.prover_data
  ready_of {trace = trace} to stands =
      let scheme = ops.opening.scheme in
      let fields = ops.opening.fields in
      let own = own_instance view in
      ready_at {ops = ops} {i = own} {coordinates = view.coordinates} {preprocessed_data = view.preprocessed} given.log_height {trace = trace} is_height fitting clear
      (subst (λ n. IsTraceCommitment scheme own.scheme fields.base fields.root n degree_bits trace to.columns given.commitment given.prover_data) (sym (same_height ops.opening.is_zk given.log_height degree_bits is_height))
      (subst (λ n. IsTraceCommitment scheme own.scheme fields.base fields.root given.log_height n trace to.columns given.commitment given.prover_data) (sym is_height) to.made)) stands

  pub some_committed : {D : Type 0} {coset_of : D → TwoAdicCoset F} {of : ProverDomains D} → of.degree_bits ≡ degree_bits → AreDomainsOf ops view coset_of of
      → given.log_height + zk_bits ops.opening.is_zk ≤ ops.opening.scheme.log_max_trace_height (own_instance view).scheme → length (own_instance view).public_values ≡ (own_instance view).layout.public_values
      → IsCommittedAt view.preprocessed (given.log_height + zk_bits ops.opening.is_zk) → IsCommitmentToSome ops view given
      → HoldsColumns ops.opening.scheme (own_instance view).scheme ops.opening.fields.base view.preprocessed (own_instance view).layout.preprocessed → IsCommitted ops view coset_of of committed
  some_committed {of = of} same_bits domains within public_values same some stands =
      let to = some.1 in
      committed_at given.log_height (subst (λ n. n ≡ given.log_height + zk_bits ops.opening.is_zk) (sym same_bits) is_height) domains within public_values same
      (subst (λ n. IsReadyFor ops view n some.0 to.columns stands.0 given.commitment given.prover_data) (sym same_bits) (ready_of to stands.1)) (to.made.takes.count ∙ to.width) stands.2

  pub made_of_committed : (r : Result (Proof K E P F) (ProvingError Y)) → IfOk r (IsProof ops view degree_bits committed) → IfOk r (IsProofOfCommitted ops view given)
  made_of_committed (Ok proof) made = λ trace to preprocessed stands. proof_at given.log_height is_height (made trace to.columns preprocessed (ready_of to stands))
  made_of_committed (Err error) made = tt

  pub fault_of_committed : HoldsColumns ops.opening.scheme (own_instance view).scheme ops.opening.fields.base view.preprocessed (own_instance view).layout.preprocessed
      → (r : Result (Proof K E P F) (ProvingError Y)) → IfErr r (IsFault ops view degree_bits committed) → IfErr r (IsFaultOfCommitted ops view given)
  fault_of_committed stands (Ok proof) fault = tt
  fault_of_committed stands (Err error) fault = λ trace to. fault_at given.log_height is_height error (fault trace to.columns stands.0 (ready_of to stands.1))

module _ {S F E C K T P X Y : Type 0} (ops : ProtocolOps S F E C K T P X Y) (view : ProverView S F E C K T) (given : CommittedTrace K T)
    (within : given.log_height + zk_bits ops.opening.is_zk ≤ ops.opening.scheme.log_max_trace_height (own_instance view).scheme) (public_values_are : length (own_instance view).public_values ≡ (own_instance view).layout.public_values)
    (there : is_some view.preprocessed ≡ ltb 0 (own_instance view).layout.preprocessed) (same : IsCommittedAt view.preprocessed (given.log_height + zk_bits ops.opening.is_zk))
    (stands : HoldsColumns ops.opening.scheme (own_instance view).scheme ops.opening.fields.base view.preprocessed (own_instance view).layout.preprocessed)
    (laws : SchemeLaws ops.opening.scheme) where
  -- The answer lacks nothing but the trace's truth,
  pub committed_acceptable : IsCommitmentToSome ops view given → ((x : F) → ops.opening.fields.same x x ≡ true)
      → (r : Result (Proof K E P F) (ProvingError Y)) → IfOk r (IsProofOfCommitted ops view given) → IfOk r (IsAcceptableOfCommitted ops view given)
  committed_acceptable some reflexive (Ok proof) made =
      answer_acceptable ops (own_instance view) view.coordinates view.preprocessed given.log_height some.0 some.1.width public_values_are there stands (λ n. given.log_height ≡ n) (λ n e. e) (given.log_height, refl, within, same) reflexive laws proof_view (Ok proof)
      (made some.0 some.1) given.log_height refl
  committed_acceptable some reflexive (Err error) made = tt

  -- and it is accepted where the trace satisfies the AIR.
  pub committed_accepted : AreLawful ops.opening.fields view.coordinates → LeavesWithin (own_instance view).layout (own_instance view).constraints
      → (declared : Option (Trace F)) → IsDeclared (own_instance view).layout declared (own_instance view).periodic_columns (own_instance view).main_next_columns (own_instance view).preprocessed_next_columns
      → ((key : Option (PreprocessedVerifierKey K)) → (view.with_key key).scheme ≡ (own_instance view).scheme)
      → (r : Result (Proof K E P F) (ProvingError Y)) → IfOk r (IsProofOfCommitted ops view given) → IfOk r (IsAcceptableOfCommitted ops view given) → IfOk r (CommittedCompleteness ops view declared given)
  committed_accepted lawful leaves declared is_declared same_scheme (Ok proof) made acceptable = λ trace to least complete.
      answer_accepted ops view.with_key view.coordinates view.preprocessed declared given.log_height trace lawful laws leaves is_declared (degree_at view.preprocessed (zk_bits ops.opening.is_zk) given.log_height (λ n. given.log_height ≡ n) (λ n e. e) given.log_height refl same) same_scheme
      proof_view (λ n. given.log_height ≡ n) (λ n. ops.opening.scheme.log_min_trace_height (own_instance view).scheme ≤ given.log_height) (λ n. ops.opening.scheme.IsComplete (own_instance view).scheme) (λ n e. e) (Ok proof) (made trace to)
      (λ n e low whole. acceptable low whole) given.log_height refl least complete
  committed_accepted lawful leaves declared is_declared same_scheme (Err error) made acceptable = tt
