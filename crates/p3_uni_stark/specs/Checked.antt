-- What is proved of a trace that was checked first.
use Rattle.std.specs.Prelude.{ℕ, ◌+◌, Bool, Option}
use Rattle.stark_support.specs.Scheme.{SchemeOps, zk_bits}
use Rattle.stark_support.specs.declared.matrix.RowMajorMatrix.{RowMajorMatrix}
use Rattle.stark_air.specs.Declaration.{Trace}
use Rattle.stark_completeness.specs.declared.violation.ConstraintViolation.{ConstraintViolation}
use Rattle.stark_completeness.specs.declared.violation.ConstraintCheckError.{ConstraintCheckError}
use Rattle.stark_completeness.specs.declared.violation.ConstraintCheckError.TheVariants.{OutOfMemory, Violation}
use Rattle.stark_proof.specs.ProofView.{ProofView}
use Rattle.stark_protocol.specs.Instance.{Instance, ProtocolOps}
use Rattle.stark_protocol.specs.declared.preprocessed.PreprocessedProverData.{PreprocessedProverData}
use Rattle.stark_protocol.specs.declared.preprocessed.PreprocessedVerifierKey.{PreprocessedVerifierKey}
use Rattle.stark_protocol.specs.Preprocessing.{HasHeight}
use Rattle.stark_prover.specs.Heights.{HasRoom, IsCommittedAt, IsOfHeight}
use Rattle.stark_prover.specs.Completeness.{AreSetUp, IsAcceptedOutside}
use Rattle.stark_transcript.specs.declared.error.ProvingError.{ProvingError}
use Rattle.p3_uni_stark.specs.declared.checked.CheckedProvingError.{CheckedProvingError}
use Rattle.p3_uni_stark.specs.declared.checked.CheckedProvingError.TheVariants.{Proving, Violation as Broken}

-- The trace has a height for which the scheme has room, at which the preprocessed columns are committed to, and which is the declared one's.
abbrev pub FitsSchemeAsDeclared : {S F E C K T P X Y : Type 0} → SchemeOps S F E C K T P X Y → S → Bool → Option (PreprocessedProverData K T) → Option (Trace F) → RowMajorMatrix F → Type 0
FitsSchemeAsDeclared scheme s is_zk preprocessed_data declared trace =
    (height : ℕ) × IsOfHeight trace height × HasRoom scheme s is_zk height × IsCommittedAt preprocessed_data (height + zk_bits is_zk) × HasHeight height declared

-- With the key that is set up beside what the prover holds, the proof is accepted, unless zeta lies in H.
abbrev pub IsAcceptedIfSetUp : {S F E C K T P X Y : Type 0} → ProtocolOps S F E C K T P X Y → (Option (PreprocessedVerifierKey K) → Instance S F C K) → Option (Trace F) → Option (PreprocessedProverData K T) → ℕ → ProofView K E P F → Type 0
IsAcceptedIfSetUp {K = K} ops i declared preprocessed_data height p = (key : Option (PreprocessedVerifierKey K)) → AreSetUp ops.opening (i key).scheme height declared preprocessed_data key → IsAcceptedOutside ops (i key) p

-- What a check's error is to a prover.
abbrev pub checked_error : {F Y : Type 0} → ConstraintCheckError F → CheckedProvingError F Y
checked_error (Violation violation) = Broken violation
checked_error OutOfMemory = Proving ProvingError.OutOfMemory

-- The one holds of a violation, or the other of a prover's error.
abbrev pub IsViolationOr : {F Y : Type 0} → (ConstraintViolation F → Type 0) → (ProvingError Y → Type 0) → CheckedProvingError F Y → Type 0
IsViolationOr broken fault (Broken violation) = broken violation
IsViolationOr broken fault (Proving error) = fault error
