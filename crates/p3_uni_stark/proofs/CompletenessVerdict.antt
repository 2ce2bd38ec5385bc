-- The verifier's answer for a proof of a satisfying trace.
use Rattle.std.proofs.Common.{◌≡◌, inl, inr, ℕ, Option, Result, Ok, Err, IfErr}
use Rattle.stark_air.specs.Declaration.{Trace}
use Rattle.stark_transcript.specs.declared.error.VerificationError.{VerificationError}
use Rattle.stark_transcript.specs.declared.error.VerificationError.TheVariants.{OutOfMemory}
use Rattle.stark_proof.specs.ProofView.{ProofView}
use Rattle.stark_protocol.specs.Acceptance.{Accepted}
use Rattle.stark_protocol.specs.FirstFault.{IsOutOfMemoryOr}
use Rattle.stark_protocol.specs.Instance.{Instance, ProtocolOps}
use Rattle.stark_protocol.specs.declared.preprocessed.PreprocessedProverData.{PreprocessedProverData}
use Rattle.stark_prover.specs.Completeness.{AreSetUp, HasSizedDegrees, IsAcceptedOutside, IsSatisfied}
use Rattle.p3_uni_stark.specs.Completeness.{IsOfSatisfyingTrace}

-- What can only be refused for want of memory or because something doesn't hold, that holds.
pub memory_alone : {T X : Type 0} {Holds : Type 0} (answer : Result T (VerificationError X)) → IfErr answer (IsOutOfMemoryOr (λ error. Holds → ⊥)) → Holds → IfErr answer (λ error. error ≡ OutOfMemory)
memory_alone (Ok x) exact holds = tt
memory_alone (Err error) (inl memory) holds = memory
memory_alone (Err error) (inr fails) holds = absurd (fails holds)

-- Of the verifier's own instance, a proof that is accepted if its trace satisfies, and is of a satisfying trace, is accepted.
pub satisfying_is_accepted : {S F E C K T P X Y : Type 0} {ops : ProtocolOps S F E C K T P X Y} {i : Instance S F C K} {declared : Option (Trace F)} {preprocessed_data : Option (PreprocessedProverData K T)} {height : ℕ} {trace : Trace F} {p : ProofView K E P F}
    → (AreSetUp ops.opening i.scheme height declared preprocessed_data i.key → IsSatisfied ops i height declared trace → HasSizedDegrees ops i height → IsAcceptedOutside ops i p) → IsOfSatisfyingTrace ops i declared preprocessed_data height trace p → Accepted ops i p
satisfying_is_accepted law satisfying =
    law satisfying.set_up satisfying.satisfied satisfying.sized satisfying.alpha satisfying.zeta satisfying.drawn satisfying.outside
