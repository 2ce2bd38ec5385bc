-- From the sizes and the commitment to a trace to what a proof starts from.
use Rattle.std.proofs.Common.{◌≡◌, ◌∙◌, ◌⊎◌, inl, inr, ap, sym, subst, ℕ, ◌+◌, ◌^◌, ◌≤◌, List, length, map, Option, None, Some, arith}
use Rattle.std.specs.Prelude.{codes, Bool, IfErr, IfOk, IfSome, Result, Ok, Err}
use Rattle.stark_support.specs.Coset.{TwoAdicCoset}
use Rattle.stark_support.specs.Periodic.{first_fault}
use Rattle.stark_support.specs.Scheme.{natural_coset, zk_bits}
use Rattle.stark_air.specs.Declaration.{Trace}
use Rattle.stark_transcript.specs.declared.error.ProvingError.{ProvingError}
use Rattle.stark_protocol.specs.Instance.{Instance, ProtocolOps, log_height}
use Rattle.stark_protocol.specs.declared.preprocessed.PreprocessedProverData.{PreprocessedProverData}
use Rattle.stark_proof.specs.ProofView.{ProofView}
use Rattle.stark_prover.specs.CommittedColumns.{IsPreprocessedCommitment, IsTraceCommitment}
use Rattle.stark_prover.specs.ProofOfTrace.{IsProofOfTrace}
use Rattle.stark_prover.specs.ProverFault.{IsReady, ProverFault, in_sizes, in_trace, columns_fault, domain_fault}
use Rattle.stark_prover.specs.SchemeFaults.{IsSchemeFault}
use Rattle.stark_prover.specs.Sizes.{IsQuotientSizeFault, SizesFault}
use Rattle.stark_prover.specs.ProverView.{ProverView, own_instance}
use Rattle.stark_prover.specs.Stages.{AreDomainsOf, IsCommitted, IsReadyFor}
use Rattle.stark_prover.specs.declared.commit.Committed.{Committed}
use Rattle.stark_prover.specs.declared.domains.ProverDomains.{ProverDomains}
use Rattle.stark_prover.proofs.Faults.{sizes_at_fault}

-- The height, of the committed one.
pub same_height : (is_zk : Bool) (height degree_bits : ℕ) → degree_bits ≡ height + zk_bits is_zk → log_height is_zk degree_bits ≡ height
same_height is_zk height degree_bits is_height = omega (arith, is_height)

-- The data of preprocessed columns have their number.
pub width_of_columns : {S F E C K T P X Y : Type 0} (ops : ProtocolOps S F E C K T P X Y) (s : S) (preprocessed_data : Option (PreprocessedProverData K T)) (preprocessed : List (List F)) (width : ℕ) → IsPreprocessedCommitment ops.opening.scheme s ops.opening.fields.base preprocessed preprocessed_data → length preprocessed ≡ width
    → IfSome preprocessed_data (λ h. h.width ≡ width)
width_of_columns ops s None preprocessed width stands number = tt
width_of_columns ops s (Some preprocessed_data) preprocessed width stands number = sym stands.1 ∙ number

module _ {S F E C K T P X Y : Type 0} {ops : ProtocolOps S F E C K T P X Y} {i : Instance S F C K} {coordinates : E → List F} {preprocessed_data : Option (PreprocessedProverData K T)} (height : ℕ) {degree_bits : ℕ} {trace : Trace F} (is_height : degree_bits ≡ height + zk_bits ops.opening.is_zk) where
  pub ready_at : {columns preprocessed : List (List F)} {commitment : K} {prover_data : T} → columns_fault ops i coordinates preprocessed_data height degree_bits trace ≡ None → domain_fault ops i coordinates preprocessed_data height (height + zk_bits ops.opening.is_zk) trace ≡ None
      → IsTraceCommitment ops.opening.scheme i.scheme ops.opening.fields.base ops.opening.fields.root (log_height ops.opening.is_zk degree_bits) degree_bits trace columns commitment prover_data
      → IsPreprocessedCommitment ops.opening.scheme i.scheme ops.opening.fields.base preprocessed preprocessed_data
      → IsReady ops i coordinates preprocessed_data (log_height ops.opening.is_zk degree_bits) degree_bits trace columns preprocessed commitment prover_data
  ready_at {columns = columns} {commitment = commitment} {prover_data = prover_data} fitting clear committed preprocessed = record {
    fitting = ap (λ n. first_fault (2 ^ n) 0 (map (λ column. length column) i.periodic_columns)) (same_height ops.opening.is_zk height degree_bits is_height) ∙ fitting;
    clear = ap (λ n. domain_fault ops i coordinates preprocessed_data height n trace) is_height ∙ clear;
    committed = committed;
    preprocessed = preprocessed;
  }

  pub proof_at : {preprocessed : List (List F)} {proof : ProofView K E P F} → IsProofOfTrace ops i coordinates preprocessed_data (log_height ops.opening.is_zk degree_bits) trace preprocessed proof → IsProofOfTrace ops i coordinates preprocessed_data height trace preprocessed proof
  proof_at {preprocessed = preprocessed} {proof = proof} made = subst (λ n. IsProofOfTrace ops i coordinates preprocessed_data n trace preprocessed proof) (same_height ops.opening.is_zk height degree_bits is_height) made

  pub fault_at : (error : ProvingError Y) → (error ≡ ProvingError.OutOfMemory) ⊎ ProverFault ops i coordinates preprocessed_data (log_height ops.opening.is_zk degree_bits) degree_bits trace error
      → (error ≡ ProvingError.OutOfMemory) ⊎ ProverFault ops i coordinates preprocessed_data height (height + zk_bits ops.opening.is_zk) trace error
  fault_at error (inl memory) = inl memory
  fault_at error (inr fault) =
      inr (subst (λ n. ProverFault ops i coordinates preprocessed_data height n trace error) is_height (subst (λ n. ProverFault ops i coordinates preprocessed_data n degree_bits trace error) (same_height ops.opening.is_zk height degree_bits is_height) fault))

  -- A run's result says it for whatever was ready.
  pub run_made : {R : Type 0} (view : R → ProofView K E P F) {columns : List (List F)} {commitment : K} {prover_data : T}
      → ((preprocessed : List (List F)) → IsPreprocessedCommitment ops.opening.scheme i.scheme ops.opening.fields.base preprocessed preprocessed_data → IsReady ops i coordinates preprocessed_data (log_height ops.opening.is_zk degree_bits) degree_bits trace columns preprocessed commitment prover_data) → (r : Result R (ProvingError Y))
      → IfOk r (λ proof. (of : Trace F) (cs fs : List (List F)) → IsReady ops i coordinates preprocessed_data (log_height ops.opening.is_zk degree_bits) degree_bits of cs fs commitment prover_data → IsProofOfTrace ops i coordinates preprocessed_data (log_height ops.opening.is_zk degree_bits) of fs (view proof))
      → IfOk r (λ proof. (preprocessed : List (List F)) → IsPreprocessedCommitment ops.opening.scheme i.scheme ops.opening.fields.base preprocessed preprocessed_data → IsProofOfTrace ops i coordinates preprocessed_data height trace preprocessed (view proof))
  run_made view {columns = columns} ready (Ok proof) made = λ preprocessed stands. proof_at (made trace columns preprocessed (ready preprocessed stands))
  run_made view ready (Err error) made = tt

  pub run_refused : {R : Type 0} {columns preprocessed : List (List F)} {commitment : K} {prover_data : T} → IsReady ops i coordinates preprocessed_data (log_height ops.opening.is_zk degree_bits) degree_bits trace columns preprocessed commitment prover_data → (r : Result R (ProvingError Y))
      → IfErr r (λ error. (of : Trace F) (cs fs : List (List F)) → IsReady ops i coordinates preprocessed_data (log_height ops.opening.is_zk degree_bits) degree_bits of cs fs commitment prover_data → (error ≡ ProvingError.OutOfMemory) ⊎ ProverFault ops i coordinates preprocessed_data (log_height ops.opening.is_zk degree_bits) degree_bits of error)
      → IfErr r (λ error. (error ≡ ProvingError.OutOfMemory) ⊎ ProverFault ops i coordinates preprocessed_data height (height + zk_bits ops.opening.is_zk) trace error)
  run_refused ready (Ok proof) made = tt
  run_refused {columns = columns} {preprocessed = preprocessed} ready (Err error) made = fault_at error (made trace columns preprocessed ready)

-- So a trace is committed to.
pub committed_at : {S F E C K T P X Y D : Type 0} {ops : ProtocolOps S F E C K T P X Y} {view : ProverView S F E C K T} {coset_of : D → TwoAdicCoset F} {of : ProverDomains D} {committed : Committed K T} {trace : Trace F} {columns preprocessed : List (List F)} (height : ℕ)
    → of.degree_bits ≡ height + zk_bits ops.opening.is_zk → AreDomainsOf ops view coset_of of
    → height + zk_bits ops.opening.is_zk ≤ ops.opening.scheme.log_max_trace_height (own_instance view).scheme → length (own_instance view).public_values ≡ (own_instance view).layout.public_values → IfSome view.preprocessed (λ h. h.degree_bits ≡ height + zk_bits ops.opening.is_zk)
    → IsReadyFor ops view of.degree_bits trace columns preprocessed committed.commitment committed.prover_data → length columns ≡ (own_instance view).layout.main → length preprocessed ≡ (own_instance view).layout.preprocessed
    → IsCommitted ops view coset_of of committed
committed_at {ops = ops} {view = view} {trace = trace} {columns = columns} {preprocessed = preprocessed} height is_height domains within public_values same ready width preprocessed_width = record {
  domains = domains;
  within = subst (λ n. n ≤ ops.opening.scheme.log_max_trace_height (own_instance view).scheme) (sym is_height) within;
  public_values = public_values;
  same = subst (λ n. IfSome view.preprocessed (λ h. h.degree_bits ≡ n)) (sym is_height) same;
  trace = trace;
  columns = columns;
  preprocessed = preprocessed;
  ready = ready;
  width = width;
  preprocessed_width = preprocessed_width;
}

module _ {S F E C K T P X Y : Type 0} {ops : ProtocolOps S F E C K T P X Y} {i : Instance S F C K} {coordinates : E → List F} {preprocessed_data : Option (PreprocessedProverData K T)} {height : ℕ} {trace : Trace F} where
  sizes_refused : (error : ProvingError Y) → (error ≡ ProvingError.OutOfMemory)
      ⊎ SizesFault (columns_fault ops i coordinates preprocessed_data height (height + zk_bits ops.opening.is_zk) trace) (domain_fault ops i coordinates preprocessed_data height (height + zk_bits ops.opening.is_zk) trace) error
      → (error ≡ ProvingError.OutOfMemory) ⊎ ProverFault ops i coordinates preprocessed_data height (height + zk_bits ops.opening.is_zk) trace error
  sizes_refused error (inl memory) = inl memory
  sizes_refused error (inr fault) = inr (in_sizes fault)

  trace_refused : columns_fault ops i coordinates preprocessed_data height (height + zk_bits ops.opening.is_zk) trace ≡ None → domain_fault ops i coordinates preprocessed_data height (height + zk_bits ops.opening.is_zk) trace ≡ None → (error : ProvingError Y)
      → (error ≡ ProvingError.OutOfMemory) ⊎ IsSchemeFault (codes "trace commitment") (ops.opening.scheme.RefusesCommit i.scheme (natural_coset ops.opening.fields.base (height + zk_bits ops.opening.is_zk)) trace.values trace.width) error
      → (error ≡ ProvingError.OutOfMemory) ⊎ ProverFault ops i coordinates preprocessed_data height (height + zk_bits ops.opening.is_zk) trace error
  trace_refused fitting clear error (inl memory) = inl memory
  trace_refused fitting clear error (inr fault) = inr (in_trace fitting clear fault)

  -- The sizes are refused,
  pub refused_sizes : (error : ProvingError Y) → IfSome (columns_fault ops i coordinates preprocessed_data height (height + zk_bits ops.opening.is_zk) trace) (λ fault. error ≡ ProvingError.PeriodicColumn fault)
      → (columns_fault ops i coordinates preprocessed_data height (height + zk_bits ops.opening.is_zk) trace ≡ None → (error ≡ ProvingError.OutOfMemory) ⊎ IsQuotientSizeFault (domain_fault ops i coordinates preprocessed_data height (height + zk_bits ops.opening.is_zk) trace) error)
      → (error ≡ ProvingError.OutOfMemory) ⊎ ProverFault ops i coordinates preprocessed_data height (height + zk_bits ops.opening.is_zk) trace error
  refused_sizes error of_columns of_quotient = sizes_refused error (sizes_at_fault _ error of_columns of_quotient)

  -- or else the trace behind them.
  pub refused_trace : {degree_bits : ℕ} → degree_bits ≡ height + zk_bits ops.opening.is_zk
      → columns_fault ops i coordinates preprocessed_data height (height + zk_bits ops.opening.is_zk) trace ≡ None → domain_fault ops i coordinates preprocessed_data height (height + zk_bits ops.opening.is_zk) trace ≡ None → (error : ProvingError Y)
      → (error ≡ ProvingError.OutOfMemory) ⊎ IsSchemeFault (codes "trace commitment") (ops.opening.scheme.RefusesCommit i.scheme (natural_coset ops.opening.fields.base degree_bits) trace.values trace.width) error
      → (error ≡ ProvingError.OutOfMemory) ⊎ ProverFault ops i coordinates preprocessed_data height (height + zk_bits ops.opening.is_zk) trace error
  refused_trace is_height fitting clear error fault =
      trace_refused fitting clear error
      (subst (λ n. (error ≡ ProvingError.OutOfMemory) ⊎ IsSchemeFault (codes "trace commitment") (ops.opening.scheme.RefusesCommit i.scheme (natural_coset ops.opening.fields.base n) trace.values trace.width) error) is_height fault)
