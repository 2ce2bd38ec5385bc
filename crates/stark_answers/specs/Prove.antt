-- What a prover answers with what is set up for an AIR, and what is written of it.
use Rattle.std.specs.Prelude.{◌≡◌, ◌⊎◌, ℕ, ◌+◌, ◌*◌, ◌^◌, ◌<◌, ◌≤◌, ◌++◌, length, Bool, false, List, Option, None, Some, option_map, Result, Ok, Err, codes, string_bytes, ⊤}
use Rattle.std.specs.declared.string.String.{String}
use Rattle.serde_json.specs.Data.{Data}
use Rattle.serde_json.specs.Written.{compact_text, has_float}
use Rattle.stark_support.specs.Scheme.{SchemeOps, zk_bits}
use Rattle.stark_air.specs.Declaration.{Trace}
use Rattle.stark_air.specs.Layout.{Layout}
use Rattle.stark_transcript.specs.declared.error.ProvingError.{ProvingError}
use Rattle.stark_proof.specs.ProofView.{ProofView, proof_view}
use Rattle.stark_proof.specs.declared.values.Proof.{Proof}
use Rattle.stark_protocol.specs.Instance.{Instance, ProtocolOps}
use Rattle.stark_protocol.specs.Preprocessing.{IsSetUp, has_columns}
use Rattle.stark_protocol.specs.declared.preprocessed.PreprocessedProverData.{PreprocessedProverData}
use Rattle.stark_protocol.specs.declared.preprocessed.PreprocessedVerifierKey.{PreprocessedVerifierKey}
use Rattle.stark_prover.specs.Acceptable.{IsAcceptable}
use Rattle.stark_prover.specs.ProofOfTrace.{IsProofOfTrace, key_of}
use Rattle.stark_prover.specs.ProverFault.{ProverFault}
use Rattle.stark_proof_bytes.specs.ProofBytes.{ProofCodecs, proof_writing}
use Rattle.stark_answers.specs.CheckedAir.{CheckedAir}
use Rattle.stark_answers.specs.Finding.{BeginsAsForm, IsProof, finding_bytes}
use Rattle.stark_answers.specs.Refusals.{prover_refusal_of}
use Rattle.stark_answers.specs.Verify.{instance_of}
use Rattle.stark_answers.specs.declared.finding.Finding.{Finding}
use Rattle.stark_answers.specs.declared.finding.Finding.TheVariants as finding
use Rattle.stark_answers.specs.declared.task.ProofForm.{ProofForm}
use Rattle.stark_answers.specs.declared.task.ProofForm.TheVariants.{Bytes, Json}
use Rattle.stark_answers.specs.declared.verdict.Refusal.TheVariants as refusal
use Rattle.stark_answers.specs.declared.verdict.Verdict.TheVariants as verdict

-- No proof's JSON has a float, so that its text is exact.
abbrev pub HasNoFloat : {K E P F : Type 0} → (ProofView K E P F → Data) → Type 0
HasNoFloat {K} {E} {P} {F} writing = (p : ProofView K E P F) → has_float (writing p) ≡ false

-- A proof's line: its JSON without spaces, and a newline.
abbrev pub json_line : {K E P F : Type 0} → (ProofView K E P F → Data) → ProofView K E P F → List ℕ
json_line writing p = compact_text (writing p) ++ codes "\n"

-- Each proof's file begins as its form does.
abbrev pub BeginsInForm : {K E P F : Type 0} → ProofForm → (ProofView K E P F → List ℕ) → Type 0
BeginsInForm {K} {E} {P} {F} form file = (p : ProofView K E P F) → BeginsAsForm form (file p)

-- A trace of an AIR's width, and public values as many as the AIR's: 2 ^ height rows, with height + zk at most a greatest one, and
-- 2 ^ log_rows beside preprocessed columns.
pub record IsTraceFor {F : Type 0} (layout : Layout) (log_rows : ℕ) (trace : Trace F) (num_public_values zk greatest : ℕ) : Type 0 where
  pub columns : 0 < trace.width
  pub width : trace.width ≡ layout.main
  pub height : ℕ
  pub rows : length trace.values ≡ 2 ^ height * trace.width
  pub within : height + zk ≤ greatest
  pub preprocessed_rows : 0 < layout.preprocessed → height ≡ log_rows
  pub public_values : num_public_values ≡ layout.public_values

-- It has no more rows than a scheme has room for.
abbrev pub IsTraceForScheme : {S F E C K T P X Y : Type 0} → SchemeOps S F E C K T P X Y → S → Bool → Layout → ℕ → Trace F → ℕ → Type 0
IsTraceForScheme scheme s is_zk layout log_rows trace num_public_values = IsTraceFor layout log_rows trace num_public_values (zk_bits is_zk) (scheme.log_max_trace_height s)

module _ {S F E C K T P X Y : Type 0} (ops : ProtocolOps S F E C K T P X Y) (log_rows : ℕ) where
  -- The prover's data of an AIR's preprocessed columns: none without any, else what is set up for them at 2 ^ log_rows rows.
  abbrev pub IsSetUpData : S → Option (Trace F) → Option (PreprocessedProverData K T) → Type 0
  IsSetUpData scheme declared None = has_columns declared ≡ false
  IsSetUpData scheme declared (Some preprocessed_data) = (trace : Trace F) × (declared ≡ Some trace) × (key : PreprocessedVerifierKey K)
      × IsSetUp ops.opening.scheme scheme ops.opening.fields.base ops.opening.fields.root ops.opening.is_zk log_rows trace preprocessed_data key

module _ {S F E C K T P X Y : Type 0} (ops : ProtocolOps S F E C K T P X Y) (coordinates : E → List F) where
  -- A proof of a trace of 2 ^ height rows, made with data that stand for these preprocessed columns, of which all of acceptance holds but that zeta may lie in H and
  -- the equation may fail.
  pub record IsMadeOf (i : Instance S F C K) (preprocessed_data : Option (PreprocessedProverData K T)) (height : ℕ) (trace : Trace F) (p : ProofView K E P F) : Type 0 where
    pub preprocessed : List (List F)
    pub of_trace : IsProofOfTrace ops i coordinates preprocessed_data height trace preprocessed p
    pub acceptable : IsAcceptable ops i p

  -- The first cause why there is none.
  abbrev pub IsCause : Instance S F C K → Option (PreprocessedProverData K T) → ℕ → Trace F → ProvingError Y → Type 0
  IsCause i preprocessed_data height trace error = ProverFault ops i coordinates preprocessed_data height (height + zk_bits ops.opening.is_zk) trace error

  -- The answer is such a proof, or the first cause why there is none.
  abbrev pub IsAnswer : Instance S F C K → Option (PreprocessedProverData K T) → ℕ → Trace F → Result (Proof K E P F) (ProvingError Y) → Type 0
  IsAnswer i preprocessed_data height trace (Ok proof) = IsMadeOf i preprocessed_data height trace (proof_view proof)
  IsAnswer i preprocessed_data height trace (Err error) = IsCause i preprocessed_data height trace error

  -- It is, with the data of the AIR's preprocessed columns; or memory was wanting.
  unfoldable pub AnswersWithData : ℕ → S → Option (Trace F) → (Option (PreprocessedProverData K T) → Instance S F C K) → ℕ → Trace F → Result (Proof K E P F) (ProvingError Y) → Type 0
  AnswersWithData log_rows scheme declared instance height trace answer = (answer ≡ Err ProvingError.OutOfMemory)
      ⊎ ((preprocessed_data : Option (PreprocessedProverData K T)) × IsSetUpData ops log_rows scheme declared preprocessed_data × IsAnswer (instance preprocessed_data) preprocessed_data height trace answer)

-- The text is a proof's line, unless the proof's JSON had a float.
abbrev pub IsWrittenLine : {K E P F Z : Type 0} → (ProofView K E P F → Data) → Proof K E P F → String Z → Type 0
IsWrittenLine writing proof line = has_float (writing (proof_view proof)) ≡ false → string_bytes line ≡ json_line writing (proof_view proof)

-- By how a proof is written as JSON and as bytes.
module _ {K E P F : Type 0} (writing : ProofView K E P F → Data) (codecs : ProofCodecs K E P F) where
  -- A proof's file in a form.
  abbrev pub file_of : ProofForm → ProofView K E P F → List ℕ
  file_of Json p = json_line writing p
  file_of Bytes p = proof_writing codecs p

  -- What is written is that file: always as bytes, and as JSON where that has no float.
  abbrev pub IsExact : ProofForm → ProofView K E P F → Type 0
  IsExact Json p = has_float (writing p) ≡ false
  IsExact Bytes p = ⊤

  -- The finding is a proof in a form, and its bytes are the file's, where these are exact.
  abbrev pub IsWritten : ProofForm → ProofView K E P F → Finding → Type 0
  IsWritten form p f = IsProof form f × (IsExact form p → finding_bytes f ≡ file_of form p)

-- what is said for want of memory by a command that refuses by name
abbrev pub no_memory : Finding
no_memory = finding.Verdict (verdict.Refused refusal.OutOfMemory)

-- This is found, or memory was refused.
abbrev pub OrNoMemory : (Finding → Type 0) → Finding → Type 0
OrNoMemory IsFound f = (f ≡ no_memory) ⊎ IsFound f

-- The finding is the proof, as it is written, or names the error.
abbrev pub TellsAnswer : {K E P F Y : Type 0} → (Proof K E P F → Finding → Type 0) → Result (Proof K E P F) (ProvingError Y) → Finding → Type 0
TellsAnswer IsProofFound (Ok proof) f = IsProofFound proof f
TellsAnswer IsProofFound (Err error) f = f ≡ finding.Verdict (verdict.Refused (prover_refusal_of error))

module _ {K E P F Y : Type 0} (form : ProofForm) (file : ProofView K E P F → List ℕ) where
  -- The finding is the file of a proof of which this holds, or names an error of which that holds.
  abbrev pub TellsProver : (ProofView K E P F → Type 0) → (ProvingError Y → Type 0) → Finding → Type 0
  TellsProver Holds Fault f = (IsProof form f × (p : ProofView K E P F) × Holds p × (finding_bytes f ≡ file p))
      ⊎ ((error : ProvingError Y) × Fault error × (f ≡ finding.Verdict (verdict.Refused (prover_refusal_of error))))

-- By the form that is asked for and the files of proofs in it.
module _ {S F E C K T P X Y : Type 0} (ops : ProtocolOps S F E C K T P X Y) (coordinates : E → List F) (form : ProofForm) (file : ProofView K E P F → List ℕ) (log_rows : ℕ) where
  -- With the scheme and the data of the AIR's preprocessed columns, the finding is a proof of the trace, or names the first cause
  -- why there is none.
  unfoldable pub IsProved : S → C → CheckedAir F → ℕ → Trace F → List F → ℕ → ℕ → Finding → Type 0
  IsProved scheme first_state air height trace public_values ood_bits alpha_bits f = (preprocessed_data : Option (PreprocessedProverData K T)) × IsSetUpData ops log_rows scheme air.preprocessed_trace preprocessed_data
      × TellsProver form file (IsMadeOf ops coordinates (instance_of air scheme first_state ood_bits alpha_bits public_values (option_map key_of preprocessed_data)) preprocessed_data height trace)
      (IsCause ops coordinates (instance_of air scheme first_state ood_bits alpha_bits public_values (option_map key_of preprocessed_data)) preprocessed_data height trace) f

module _ {S F E C K T P X Y : Type 0} (ops : ProtocolOps S F E C K T P X Y) (coordinates : E → List F) (file : ProofView K E P F → List ℕ) (log_rows : ℕ) where
  -- The bytes are the file of a proof of the trace.
  unfoldable pub IsProofFile : S → C → CheckedAir F → ℕ → Trace F → List F → ℕ → ℕ → List ℕ → Type 0
  IsProofFile scheme first_state air height trace public_values ood_bits alpha_bits bytes = (preprocessed_data : Option (PreprocessedProverData K T)) × IsSetUpData ops log_rows scheme air.preprocessed_trace preprocessed_data
      × (p : ProofView K E P F) × IsMadeOf ops coordinates (instance_of air scheme first_state ood_bits alpha_bits public_values (option_map key_of preprocessed_data)) preprocessed_data height trace p
      × (bytes ≡ file p)
