-- What a prover answers.
use Rattle.std.specs.Prelude.{ℕ, ◌+◌, ◌≤◌, List, Option}
use Rattle.stark_support.specs.Scheme.{zk_bits}
use Rattle.stark_support.specs.declared.matrix.RowMajorMatrix.{RowMajorMatrix}
use Rattle.stark_air.specs.Declaration.{Trace}
use Rattle.stark_transcript.specs.declared.error.ProvingError.{ProvingError}
use Rattle.stark_proof.specs.ProofView.{proof_view}
use Rattle.stark_proof.specs.declared.values.Proof.{Proof}
use Rattle.stark_protocol.specs.Instance.{ProtocolOps}
use Rattle.stark_completeness.specs.RowCheck.{trace_of}
use Rattle.stark_prover.specs.Acceptable.{IsAcceptable}
use Rattle.stark_prover.specs.CommittedColumns.{IsPreprocessedCommitment}
use Rattle.stark_prover.specs.Heights.{IsOfHeight}
use Rattle.stark_prover.specs.Completeness.{IsAcceptedIfSatisfied}
use Rattle.stark_prover.specs.ProofOfTrace.{IsProofOfTrace}
use Rattle.stark_prover.specs.ProverFault.{ProverFault}
use Rattle.stark_prover.specs.ProverView.{ProverView, own_instance}
use Rattle.stark_prover.specs.SchemeFaults.{IsOutOfMemoryOr}

module _ {S F E C K T P X Y : Type 0} (ops : ProtocolOps S F E C K T P X Y) (view : ProverView S F E C K T) where
  -- The data stand for these preprocessed columns.
  abbrev pub ArePreprocessedColumns : List (List F) → Type 0
  ArePreprocessedColumns preprocessed = IsPreprocessedCommitment ops.opening.scheme (own_instance view).scheme ops.opening.fields.base preprocessed view.preprocessed

  -- A proof of a trace of 2 ^ height rows, with whatever preprocessed columns,
  abbrev pub IsProofAt : ℕ → RowMajorMatrix F → Proof K E P F → Type 0
  IsProofAt height trace proof = (preprocessed : List (List F)) → ArePreprocessedColumns preprocessed → IsProofOfTrace ops (own_instance view) view.coordinates view.preprocessed height (trace_of trace) preprocessed (proof_view proof)

  -- and at each height that the trace has;
  abbrev pub IsProofOf : RowMajorMatrix F → Proof K E P F → Type 0
  IsProofOf trace proof = (height : ℕ) → IsOfHeight trace height → IsProofAt height trace proof

  -- the same with these columns.
  abbrev pub IsProofWith : List (List F) → RowMajorMatrix F → Proof K E P F → Type 0
  IsProofWith preprocessed trace proof = (height : ℕ) → IsOfHeight trace height → IsProofOfTrace ops (own_instance view) view.coordinates view.preprocessed height (trace_of trace) preprocessed (proof_view proof)

  -- From the scheme's least height on, and where it refuses no true opening: the proof lacks nothing but the trace's truth,
  abbrev pub IsAcceptableProof : RowMajorMatrix F → Proof K E P F → Type 0
  IsAcceptableProof trace proof = (height : ℕ) → IsOfHeight trace height → ops.opening.scheme.log_min_trace_height (own_instance view).scheme ≤ height
      → ops.opening.scheme.IsComplete (own_instance view).scheme → IsAcceptable ops (own_instance view) (proof_view proof)

  -- and it is accepted where the trace satisfies the AIR, beside this declared preprocessed trace.
  abbrev pub Completeness : Option (Trace F) → RowMajorMatrix F → Proof K E P F → Type 0
  Completeness declared trace proof = (height : ℕ) → IsOfHeight trace height → ops.opening.scheme.log_min_trace_height (own_instance view).scheme ≤ height
      → ops.opening.scheme.IsComplete (own_instance view).scheme → IsAcceptedIfSatisfied ops view.with_key declared view.preprocessed height (trace_of trace) (proof_view proof)

  -- Why there is no proof of a trace of 2 ^ height rows, and at each height that the trace has.
  abbrev pub IsFaultAt : ℕ → RowMajorMatrix F → ProvingError Y → Type 0
  IsFaultAt height trace error = IsOutOfMemoryOr (ProverFault ops (own_instance view) view.coordinates view.preprocessed height (height + zk_bits ops.opening.is_zk) (trace_of trace)) error

  abbrev pub IsFaultOf : RowMajorMatrix F → ProvingError Y → Type 0
  IsFaultOf trace error = (height : ℕ) → IsOfHeight trace height → IsFaultAt height trace error
