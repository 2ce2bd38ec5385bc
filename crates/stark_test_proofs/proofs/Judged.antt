-- From the clause of a prover and a verifier to what is said of a proof that they made.
use Rattle.std.proofs.Common.{◌≡◌, ℕ, ◌*◌, ◌^◌, length, Option, Result, IfErr}
use Rattle.stark_air.specs.Declaration.{Trace}
use Rattle.stark_proof.specs.ProofView.{ProofView}
use Rattle.stark_protocol.specs.Instance.{Instance, ProtocolOps}
use Rattle.stark_protocol.specs.declared.preprocessed.PreprocessedProverData.{PreprocessedProverData}
use Rattle.stark_protocol.specs.declared.preprocessed.PreprocessedVerifierKey.{PreprocessedVerifierKey}
use Rattle.stark_prover.specs.Completeness.{AreSetUp}
use Rattle.stark_transcript.specs.declared.error.VerificationError.{VerificationError}
use Rattle.stark_transcript.specs.declared.error.VerificationError.TheVariants.{OutOfMemory}
use Rattle.p3_uni_stark.specs.Completeness.{IsOfSatisfyingTrace, IsProvable}
use Rattle.stark_test_proofs.specs.MadeProofs.{IsJudged}

-- With what was set up, of which the instance has the key.
pub judged : {S F E C K T P X Y V : Type 0} (ops : ProtocolOps S F E C K T P X Y) (with_key : Option (PreprocessedVerifierKey K) → Instance S F C K) (declared : Option (Trace F)) (height : ℕ) (trace : Trace F) (p : ProofView K E P F) (verdict : Result V (VerificationError X))
    (preprocessed_data : Option (PreprocessedProverData K T)) (key : Option (PreprocessedVerifierKey K)) → AreSetUp ops.opening (with_key key).scheme height declared preprocessed_data key → AreSetUp ops.opening (with_key key).scheme height declared preprocessed_data (with_key key).key
    → length trace.values ≡ 2 ^ height * trace.width
    → ((h : ℕ) → IsProvable ops.opening.scheme (with_key key).scheme trace h → IsOfSatisfyingTrace ops (with_key key) declared preprocessed_data h trace p → IfErr verdict (λ error. error ≡ OutOfMemory))
    → IsJudged ops with_key declared height trace p verdict
judged ops with_key declared height trace p verdict preprocessed_data key set_up beside rows complete = record {
  preprocessed_data = preprocessed_data;
  key = key;
  set_up = set_up;
  accepted = λ least whole satisfied sized drawn. complete height (record { rows = rows; least = least; complete = whole }) (record {
    set_up = beside;
    satisfied = satisfied;
    sized = sized;
    alpha = drawn.alpha;
    zeta = drawn.zeta;
    drawn = drawn.drawn;
    outside = drawn.outside;
  });
}
