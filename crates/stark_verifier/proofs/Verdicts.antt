-- From what the parts of a verifier find to what it answers.
use Rattle.std.proofs.Common.{◌≡◌, ◌⊎◌, inl, inr, sym, subst, ℕ, Option, None, Some, Ok, Err}
use Rattle.stark_support.specs.declared.periodic.PeriodicColumnShapeError.{PeriodicColumnShapeError}
use Rattle.stark_transcript.specs.Errors.{transcript_error}
use Rattle.stark_transcript.specs.declared.shape.StarkTranscriptFailure.{StarkTranscriptFailure}
use Rattle.stark_transcript.specs.declared.error.VerificationError.{VerificationError}
use Rattle.stark_transcript.specs.declared.error.VerificationError.TheVariants.{OutOfMemory}
use Rattle.stark_protocol.specs.Instance.{Instance, ProtocolOps, log_height}
use Rattle.stark_protocol.specs.OpenedClaims.{OpeningsFault}
use Rattle.stark_proof.specs.ProofView.{ProofView}
use Rattle.stark_protocol.specs.Acceptance.{IsBalanced, IsPointOfH, RunHolds, challenges, columns_fault, shape_fault}
use Rattle.stark_protocol.specs.FirstFault.{EquationFault, FirstFault, PointFault, RunFault, in_equation, in_openings, in_point, in_replay, in_run, in_shape}

-- what is found at the point, by another name of the height
pub point_fault_at : {X : Type 0} (Inside : ℕ → Type 0) (fault : ℕ → Option PeriodicColumnShapeError) {j k : ℕ} {error : VerificationError X} → j ≡ k
    → (error ≡ OutOfMemory) ⊎ PointFault (Inside j) (fault j) error → (error ≡ OutOfMemory) ⊎ PointFault (Inside k) (fault k) error
point_fault_at Inside fault {error = error} same obtained = subst (λ (n : ℕ). (error ≡ OutOfMemory) ⊎ PointFault (Inside n) (fault n) error) same obtained

module _ {S F E C K T P X Y : Type 0} {ops : ProtocolOps S F E C K T P X Y} {i : Instance S F C K} {p : ProofView K E P F} {error : VerificationError X} where
  pub replay_refused : {failure : StarkTranscriptFailure} → (challenges ops i p).answer ≡ Err failure → error ≡ transcript_error failure → (error ≡ OutOfMemory) ⊎ RunFault ops i p error
  replay_refused answered is = inr (subst (λ x. RunFault ops i p x) (sym is) (in_replay answered))

  pub point_refused : {drawn : E × E} → (challenges ops i p).answer ≡ Ok drawn
      → (error ≡ OutOfMemory) ⊎ PointFault (IsPointOfH ops.opening.fields (log_height ops.opening.is_zk p.degree_bits) drawn.1) (columns_fault ops i p) error → (error ≡ OutOfMemory) ⊎ RunFault ops i p error
  point_refused answered (inl memory) = inl memory
  point_refused answered (inr fault) = inr (in_point answered fault)

  pub openings_refused : {drawn : E × E} {state : C} → (challenges ops i p).answer ≡ Ok drawn
      → (IsPointOfH ops.opening.fields (log_height ops.opening.is_zk p.degree_bits) drawn.1 → ⊥) → columns_fault ops i p ≡ None → state ≡ (challenges ops i p).state
      → (error ≡ OutOfMemory) ⊎ OpeningsFault ops.opening i.scheme i.key p drawn.1 state error → (error ≡ OutOfMemory) ⊎ RunFault ops i p error
  openings_refused answered outside fitting same (inl memory) = inl memory
  openings_refused {drawn = drawn} answered outside fitting same (inr fault) =
      inr (in_openings answered outside fitting (subst (λ (s : C). OpeningsFault ops.opening i.scheme i.key p drawn.1 s error) same fault))

  pub shape_refused : (error ≡ OutOfMemory) ⊎ (shape_fault ops i p ≡ Some error) → (error ≡ OutOfMemory) ⊎ FirstFault ops i p error
  shape_refused (inl memory) = inl memory
  shape_refused (inr fault) = inr (in_shape fault)

  pub run_refused : shape_fault ops i p ≡ None → (error ≡ OutOfMemory) ⊎ RunFault ops i p error → (error ≡ OutOfMemory) ⊎ FirstFault ops i p error
  run_refused clear (inl memory) = inl memory
  run_refused clear (inr fault) = inr (in_run clear fault)

  pub equation_refused : {alpha zeta : E} → shape_fault ops i p ≡ None → RunHolds ops i p alpha zeta
      → (error ≡ OutOfMemory) ⊎ EquationFault (IsBalanced ops i p alpha zeta) error → (error ≡ OutOfMemory) ⊎ FirstFault ops i p error
  equation_refused clear run (inl memory) = inl memory
  equation_refused clear run (inr fault) = inr (in_equation clear run fault)
