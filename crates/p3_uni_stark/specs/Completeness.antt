-- Which proofs a verifier accepts because a prover made them of a satisfying trace.
use Rattle.std.specs.Prelude.{◌≡◌, ℕ, ◌*◌, ◌^◌, ◌≤◌, Option, Ok, length}
use Rattle.stark_support.specs.Scheme.{SchemeOps}
use Rattle.stark_air.specs.Declaration.{Trace}
use Rattle.stark_proof.specs.ProofView.{ProofView}
use Rattle.stark_protocol.specs.Acceptance.{IsPointOfH, challenges}
use Rattle.stark_protocol.specs.Instance.{Instance, ProtocolOps, log_height}
use Rattle.stark_protocol.specs.declared.preprocessed.PreprocessedProverData.{PreprocessedProverData}
use Rattle.stark_prover.specs.Completeness.{AreSetUp, HasSizedDegrees, IsSatisfied}

-- The trace has 2 ^ height rows, as many as the scheme takes, and the scheme refuses no true opening.
pub record IsProvable {S F E C K T P X Y : Type 0} (scheme : SchemeOps S F E C K T P X Y) (s : S) (trace : Trace F) (height : ℕ) : Type 0 where
  pub rows : length trace.values ≡ 2 ^ height * trace.width
  pub least : scheme.log_min_trace_height s ≤ height
  pub complete : scheme.IsComplete s

-- Prover's data and key are the two parts of one set-up, or there is neither; the trace satisfies the AIR, whose constraints'
-- degrees fit the quotient's domain; and the zeta that the proof's replay draws is no point of H.
pub record IsOfSatisfyingTrace {S F E C K T P X Y : Type 0} (ops : ProtocolOps S F E C K T P X Y) (i : Instance S F C K) (declared : Option (Trace F)) (preprocessed_data : Option (PreprocessedProverData K T)) (height : ℕ) (trace : Trace F) (p : ProofView K E P F) : Type 0 where
  pub set_up : AreSetUp ops.opening i.scheme height declared preprocessed_data i.key
  pub satisfied : IsSatisfied ops i height declared trace
  pub sized : HasSizedDegrees ops i height
  pub alpha : E
  pub zeta : E
  pub drawn : (challenges ops i p).answer ≡ Ok (alpha, zeta)
  pub outside : IsPointOfH ops.opening.fields (log_height ops.opening.is_zk p.degree_bits) zeta → ⊥
