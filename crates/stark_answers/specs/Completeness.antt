-- When the proof of a trace is accepted with an AIR's own key.
use Rattle.std.specs.Prelude.{◌≡◌, ℕ, ◌+◌, ◌*◌, ◌^◌, length, Option, None, Result, Ok, IfOk}
use Rattle.stark_support.specs.Scheme.{zk_bits}
use Rattle.stark_air.specs.Declaration.{Trace}
use Rattle.stark_completeness.specs.RowCheck.{IsSatisfiedByTrace}
use Rattle.stark_proof.specs.ProofJson.{openings_rule_fault}
use Rattle.stark_proof.specs.ProofView.{ProofView, proof_view}
use Rattle.stark_proof.specs.declared.values.Proof.{Proof}
use Rattle.stark_protocol.specs.Acceptance.{Accepted, IsPointOfH, challenges}
use Rattle.stark_protocol.specs.Instance.{Instance, ProtocolOps, log_height}
use Rattle.stark_protocol.specs.declared.preprocessed.PreprocessedVerifierKey.{PreprocessedVerifierKey}
use Rattle.stark_prover.specs.Completeness.{HasSizedDegrees}
use Rattle.stark_transcript.specs.declared.error.ProvingError.{ProvingError}
use Rattle.stark_answers.specs.Verify.{IsKey}

module _ {S F E C K T P X Y : Type 0} (ops : ProtocolOps S F E C K T P X Y) (log_rows : ℕ) (scheme : S) (declared : Option (Trace F)) (instance : Option (PreprocessedVerifierKey K) → Instance S F C K) where
  -- A check finds that the trace satisfies the AIR.
  abbrev pub IsChecked : Trace F → Option (PreprocessedVerifierKey K) → Type 0
  IsChecked trace key = IsSatisfiedByTrace ops.opening.fields.base ops.opening.fields.base_inverse ops.opening.fields.root ops.opening.fields.adicity (instance key).constraints (instance key).periodic_columns trace declared (instance key).public_values

  -- A proof of a trace of 2 ^ height rows says this height, and its opened values keep the rule of a proof's JSON. With a key of the AIR's its
  -- replay draws alpha and zeta, and it is accepted unless zeta lies in H, where a check finds the trace satisfying and the constraints'
  -- degrees fit the quotient's domain.
  pub record IsAcceptedWithKey (height : ℕ) (trace : Trace F) (p : ProofView K E P F) : Type 0 where
    pub degree_bits : p.degree_bits ≡ height + zk_bits ops.opening.is_zk
    pub ruled : openings_rule_fault p.opened_values ≡ None
    pub key : Option (PreprocessedVerifierKey K)
    pub is_key : IsKey ops log_rows scheme declared key
    pub alpha : E
    pub zeta : E
    pub drawn : (challenges ops (instance key) p).answer ≡ Ok (alpha, zeta)
    pub accepted : IsChecked trace key → HasSizedDegrees ops (instance key) height
        → (IsPointOfH ops.opening.fields (log_height ops.opening.is_zk p.degree_bits) zeta → ⊥) → Accepted ops (instance key) p

  -- It is so of the proof that is answered of a trace.
  abbrev pub IsComplete : Trace F → Result (Proof K E P F) (ProvingError Y) → Type 0
  IsComplete trace answer = IfOk answer (λ proof. (height : ℕ) → length trace.values ≡ 2 ^ height * trace.width → IsAcceptedWithKey height trace (proof_view proof))
