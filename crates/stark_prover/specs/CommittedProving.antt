-- What a prover answers for a trace that is committed to already.
use Rattle.std.specs.Prelude.{◌≡◌, ◌+◌, ◌≤◌, List, Option}
use Rattle.stark_support.specs.Scheme.{zk_bits}
use Rattle.stark_air.specs.Declaration.{Trace}
use Rattle.stark_transcript.specs.declared.error.ProvingError.{ProvingError}
use Rattle.stark_proof.specs.ProofView.{proof_view}
use Rattle.stark_proof.specs.declared.values.Proof.{Proof}
use Rattle.stark_protocol.specs.Instance.{ProtocolOps}
use Rattle.stark_prover.specs.Acceptable.{IsAcceptable}
use Rattle.stark_prover.specs.CommittedColumns.{IsTraceCommitment}
use Rattle.stark_prover.specs.Completeness.{IsAcceptedIfSatisfied}
use Rattle.stark_prover.specs.ProofOfTrace.{IsProofOfTrace}
use Rattle.stark_prover.specs.ProverFault.{ProverFault}
use Rattle.stark_prover.specs.ProverView.{ProverView, own_instance}
use Rattle.stark_prover.specs.Proving.{ArePreprocessedColumns}
use Rattle.stark_prover.specs.SchemeFaults.{IsOutOfMemoryOr}
use Rattle.stark_prover.specs.declared.committed.CommittedTrace.{CommittedTrace}

module _ {S F E C K T P X Y : Type 0} (ops : ProtocolOps S F E C K T P X Y) (view : ProverView S F E C K T) where
  -- The commitment is one to this trace, of the AIR's width.
  pub record IsCommitmentTo (committed : CommittedTrace K T) (trace : Trace F) : Type 0 where
    pub columns : List (List F)
    pub width : trace.width ≡ (own_instance view).layout.main
    pub made : IsTraceCommitment ops.opening.scheme (own_instance view).scheme ops.opening.fields.base ops.opening.fields.root committed.log_height (committed.log_height + zk_bits ops.opening.is_zk) trace columns committed.commitment committed.prover_data

  abbrev pub IsCommitmentToSome : CommittedTrace K T → Type 0
  IsCommitmentToSome committed = (trace : Trace F) × IsCommitmentTo committed trace

  -- A proof of whatever trace the commitment is to, with whatever preprocessed columns;
  abbrev pub IsProofOfCommitted : CommittedTrace K T → Proof K E P F → Type 0
  IsProofOfCommitted committed proof = (trace : Trace F) → IsCommitmentTo committed trace → (preprocessed : List (List F)) → ArePreprocessedColumns ops view preprocessed
      → IsProofOfTrace ops (own_instance view) view.coordinates view.preprocessed committed.log_height trace preprocessed (proof_view proof)

  -- from the scheme's least height on, and where it refuses no true opening, the proof lacks nothing but the trace's truth,
  abbrev pub IsAcceptableOfCommitted : CommittedTrace K T → Proof K E P F → Type 0
  IsAcceptableOfCommitted committed proof = ops.opening.scheme.log_min_trace_height (own_instance view).scheme ≤ committed.log_height → ops.opening.scheme.IsComplete (own_instance view).scheme → IsAcceptable ops (own_instance view) (proof_view proof)

  -- and it is accepted where a trace that the commitment is to satisfies the AIR, beside this declared preprocessed trace.
  abbrev pub CommittedCompleteness : Option (Trace F) → CommittedTrace K T → Proof K E P F → Type 0
  CommittedCompleteness declared committed proof = (trace : Trace F) → IsCommitmentTo committed trace → ops.opening.scheme.log_min_trace_height (own_instance view).scheme ≤ committed.log_height
      → ops.opening.scheme.IsComplete (own_instance view).scheme → IsAcceptedIfSatisfied ops view.with_key declared view.preprocessed committed.log_height trace (proof_view proof)

  -- Why there is no proof, of whatever trace the commitment is to.
  abbrev pub IsFaultOfCommitted : CommittedTrace K T → ProvingError Y → Type 0
  IsFaultOfCommitted committed error = (trace : Trace F) → IsCommitmentTo committed trace
      → IsOutOfMemoryOr (ProverFault ops (own_instance view) view.coordinates view.preprocessed committed.log_height (committed.log_height + zk_bits ops.opening.is_zk) trace) error
