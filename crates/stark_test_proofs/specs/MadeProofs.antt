-- What a verifier says of a proof that was made of a trace with what was set up.
use Rattle.std.specs.Prelude.{◌≡◌, ℕ, ◌≤◌, Option, Result, Ok, IfErr}
use Rattle.stark_air.specs.Declaration.{Trace}
use Rattle.stark_proof.specs.ProofView.{ProofView}
use Rattle.stark_protocol.specs.Acceptance.{IsPointOfH, challenges}
use Rattle.stark_protocol.specs.Instance.{Instance, ProtocolOps, log_height}
use Rattle.stark_protocol.specs.declared.preprocessed.PreprocessedProverData.{PreprocessedProverData}
use Rattle.stark_protocol.specs.declared.preprocessed.PreprocessedVerifierKey.{PreprocessedVerifierKey}
use Rattle.stark_prover.specs.Completeness.{AreSetUp, HasSizedDegrees, IsSatisfied}
use Rattle.stark_transcript.specs.declared.error.VerificationError.{VerificationError}
use Rattle.stark_transcript.specs.declared.error.VerificationError.TheVariants.{OutOfMemory}

-- The proof's replay draws a zeta that is no point of H.
pub record IsDrawnOutside {S F E C K T P X Y : Type 0} (ops : ProtocolOps S F E C K T P X Y) (i : Instance S F C K) (p : ProofView K E P F) : Type 0 where
  pub alpha : E
  pub zeta : E
  pub drawn : (challenges ops i p).answer ≡ Ok (alpha, zeta)
  pub outside : IsPointOfH ops.opening.fields (log_height ops.opening.is_zk p.degree_bits) zeta → ⊥

-- The declared preprocessed columns were set up at 2 ^ height rows, and the proof is judged with the key: over a scheme that
-- refuses no true opening, from its least height on, it is refused for want of memory alone where the trace satisfies the AIR,
-- whose constraints' degrees fit the quotient's domain, unless zeta lies in H.
pub record IsJudged {S F E C K T P X Y V : Type 0} (ops : ProtocolOps S F E C K T P X Y) (with_key : Option (PreprocessedVerifierKey K) → Instance S F C K) (declared : Option (Trace F)) (height : ℕ) (trace : Trace F)
    (p : ProofView K E P F) (verdict : Result V (VerificationError X)) : Type 0 where
  pub preprocessed_data : Option (PreprocessedProverData K T)
  pub key : Option (PreprocessedVerifierKey K)
  pub set_up : AreSetUp ops.opening (with_key key).scheme height declared preprocessed_data key
  pub accepted : ops.opening.scheme.log_min_trace_height (with_key key).scheme ≤ height → ops.opening.scheme.IsComplete (with_key key).scheme
      → IsSatisfied ops (with_key key) height declared trace → HasSizedDegrees ops (with_key key) height → IsDrawnOutside ops (with_key key) p
      → IfErr verdict (λ error. error ≡ OutOfMemory)
