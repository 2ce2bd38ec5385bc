-- What a verifier answers with an AIR's own key.
use Rattle.std.specs.Prelude.{◌≡◌, ◌⊎◌, ℕ, zero, suc, ◌+◌, ◌<◌, false, List, Option, None, Some, Result, Ok, Err}
use Rattle.stark_support.specs.Coset.{TwoAdicCoset}
use Rattle.stark_support.specs.Scheme.{SchemeOps, zk_bits}
use Rattle.stark_air.specs.Declaration.{Trace}
use Rattle.stark_transcript.specs.declared.error.VerificationError.{VerificationError}
use Rattle.stark_transcript.specs.declared.error.VerificationError.TheVariants as error
use Rattle.stark_protocol.specs.Acceptance.{Accepted, shape_fault}
use Rattle.stark_protocol.specs.FirstFault.{FirstFault}
use Rattle.stark_protocol.specs.Instance.{Instance, ProtocolOps}
use Rattle.stark_protocol.specs.Preprocessing.{IsSetUp, has_columns}
use Rattle.stark_proof.specs.ProofView.{ProofView}
use Rattle.stark_protocol.specs.declared.preprocessed.PreprocessedProverData.{PreprocessedProverData}
use Rattle.stark_protocol.specs.declared.preprocessed.PreprocessedVerifierKey.{PreprocessedVerifierKey}
use Rattle.stark_verifier.specs.declared.key_size.KeySize.{KeySize}
use Rattle.stark_answers.specs.CheckedAir.{CheckedAir}
use Rattle.stark_answers.specs.Refusals.{refusal_of}
use Rattle.stark_answers.specs.declared.verdict.Verdict.{Verdict}
use Rattle.stark_answers.specs.declared.verdict.Verdict.TheVariants as verdict

-- An AIR, as a verifier is given it.
abbrev pub instance_of : {S F C K : Type 0} → CheckedAir F → S → C → ℕ → ℕ → List F → Option (PreprocessedVerifierKey K) → Instance S F C K
instance_of air scheme first_state ood_bits alpha_bits public_values key = record {
  scheme = scheme;
  first_state = first_state;
  ood_bits = ood_bits;
  constraint_bits = alpha_bits;
  layout = air.layout;
  main_next_columns = air.next_columns;
  preprocessed_next_columns = air.preprocessed_next_columns;
  periodic_columns = air.periodic_columns;
  degree_hint = air.degree_hint;
  constraints = air.constraints;
  public_values = public_values;
  key = key;
}

-- The scheme refuses no preprocessed columns.
abbrev pub SetsUpAll : {S F E C K T P X Y : Type 0} → SchemeOps S F E C K T P X Y → S → Type 0
SetsUpAll {F = F} {Y = Y} scheme s = (coset : TwoAdicCoset F) (values : List F) (width : ℕ) (reason : Y) → scheme.RefusesPreprocessing s coset values width reason → ⊥

-- The answer is Ok where a fact holds, or else a fault.
abbrev pub Answers : {X : Type 0} → Type 0 → (VerificationError X → Type 0) → Result (Unit {0}) (VerificationError X) → Type 0
Answers Holds Fault (Ok unit) = Holds
Answers Holds Fault (Err e) = Fault e

-- The verdict says that a fact holds, or names a fault.
abbrev pub TellsProof : {X : Type 0} → Type 0 → (VerificationError X → Type 0) → Verdict → Type 0
TellsProof Holds Fault verdict.Accepted = Holds
TellsProof {X = X} Holds Fault (verdict.Refused why) = (e : VerificationError X) × Fault e × (why ≡ refusal_of e)
TellsProof Holds Fault verdict.BadInput = ⊥
TellsProof Holds Fault verdict.OutOfMemory = ⊥

-- The size of the key of `width` preprocessed columns at 2 ^ degree_bits rows; without any there is none.
abbrev pub size_of_key : (width degree_bits : ℕ) → Option KeySize
size_of_key zero degree_bits = None
size_of_key (suc width) degree_bits = Some (record { width = suc width; degree_bits = degree_bits })

module _ {S F E C K T P X Y : Type 0} (ops : ProtocolOps S F E C K T P X Y) (log_rows : ℕ) where
  -- The key of an AIR: none without preprocessed columns, else one that is set up for them at 2 ^ log_rows rows.
  abbrev pub IsKey : S → Option (Trace F) → Option (PreprocessedVerifierKey K) → Type 0
  IsKey scheme declared None = has_columns declared ≡ false
  IsKey scheme declared (Some key) = (trace : Trace F) × (declared ≡ Some trace) × (prover : PreprocessedProverData K T)
      × IsSetUp ops.opening.scheme scheme ops.opening.fields.base ops.opening.fields.root ops.opening.is_zk log_rows trace prover key × (0 < trace.width)

  -- A key of the width and height of an AIR's: none without preprocessed columns.
  abbrev pub IsSizedAsKey : Option (Trace F) → Option (PreprocessedVerifierKey K) → Type 0
  IsSizedAsKey declared None = has_columns declared ≡ false
  IsSizedAsKey declared (Some key) = (trace : Trace F) × (declared ≡ Some trace) × (0 < trace.width) × (key.width ≡ trace.width) × (key.degree_bits ≡ log_rows + zk_bits ops.opening.is_zk)

  -- Whatever the key of this width and height is, the proof's first fault is this one of its shape: it is found before a key is set up.
  abbrev pub IsMisshapen : Option (Trace F) → (Option (PreprocessedVerifierKey K) → Instance S F C K) → ProofView K E P F → VerificationError X → Type 0
  IsMisshapen declared instance proof error = (key : Option (PreprocessedVerifierKey K)) → IsSizedAsKey declared key → shape_fault ops (instance key) proof ≡ Some error

  -- With an AIR's key, the answer is Ok where the proof is accepted, or else its first fault; or its first fault, whatever the key is; or
  -- memory was wanting.
  abbrev pub IsAnswerWithKey : S → Option (Trace F) → (Option (PreprocessedVerifierKey K) → Instance S F C K) → ProofView K E P F → Result (Unit {0}) (VerificationError X) → Type 0
  IsAnswerWithKey scheme declared instance proof answer = (answer ≡ Err error.OutOfMemory)
      ⊎ (((key : Option (PreprocessedVerifierKey K)) × IsKey scheme declared key × Answers (Accepted ops (instance key) proof) (FirstFault ops (instance key) proof) answer)
      ⊎ ((e : VerificationError X) × IsMisshapen declared instance proof e × (answer ≡ Err e)))

module _ {S F E C K T P X Y : Type 0} (ops : ProtocolOps S F E C K T P X Y) (log_rows : ℕ) where
  -- With the scheme and the AIR's key, the verdict says whether the proof is accepted, or names its first fault; or it names a fault of its
  -- shape which is the first, whatever the key of the AIR's columns is.
  unfoldable pub IsVerdict : S → C → CheckedAir F → ProofView K E P F → List F → ℕ → ℕ → Verdict → Type 0
  IsVerdict scheme first_state air proof public_values ood_bits alpha_bits v = ((key : Option (PreprocessedVerifierKey K)) × IsKey ops log_rows scheme air.preprocessed_trace key
      × TellsProof (Accepted ops (instance_of air scheme first_state ood_bits alpha_bits public_values key) proof) (FirstFault ops (instance_of air scheme first_state ood_bits alpha_bits public_values key) proof) v)
      ⊎ ((e : VerificationError X) × IsMisshapen ops log_rows air.preprocessed_trace (instance_of air scheme first_state ood_bits alpha_bits public_values) proof e × (v ≡ verdict.Refused (refusal_of e)))
