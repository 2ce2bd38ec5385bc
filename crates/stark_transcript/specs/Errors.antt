-- What an error of one layer becomes in the next, and the name by which a shape's is told.
use Rattle.std.specs.Prelude.{◌≡◌, ℕ, List, codes, ⊤}
use Rattle.stark_support.specs.declared.scheme.SchemeFault.{SchemeFault}
use Rattle.stark_support.specs.declared.scheme.SchemeFault.TheVariants.{Refused, OutOfMemory}
use Rattle.stark_transcript.specs.declared.shape.StarkTranscriptFailure.{StarkTranscriptFailure}
use Rattle.stark_transcript.specs.declared.shape.StarkTranscriptFailure.TheVariants.{MissingPreprocessedCommitment, UnexpectedPreprocessedCommitment, MissingRandomCommitment, UnexpectedRandomCommitment, AlphaPowWitness, OodPowWitness}
use Rattle.stark_transcript.specs.declared.error.InvalidProofShapeError.{InvalidProofShapeError}
use Rattle.stark_transcript.specs.declared.error.InvalidProofShapeError.TheVariants as shape
use Rattle.stark_transcript.specs.declared.error.VerificationError.{VerificationError}
use Rattle.stark_transcript.specs.declared.error.VerificationError.TheVariants.{InvalidProofShape, RandomizationError, InvalidAlphaPowWitness, InvalidOodPowWitness}
use Rattle.stark_transcript.specs.declared.error.ProvingError.{ProvingError}

-- A transcript that fails in the verifier.
abbrev pub transcript_error : {X : Type 0} → StarkTranscriptFailure → VerificationError X
transcript_error (MissingPreprocessedCommitment width) = InvalidProofShape shape.PreprocessedVerifierKeyInconsistency
transcript_error UnexpectedPreprocessedCommitment = InvalidProofShape shape.PreprocessedVerifierKeyInconsistency
transcript_error MissingRandomCommitment = RandomizationError
transcript_error UnexpectedRandomCommitment = RandomizationError
transcript_error (AlphaPowWitness bits) = InvalidAlphaPowWitness
transcript_error (OodPowWitness bits) = InvalidOodPowWitness

-- The scheme's fault in the phase of this name: its reason is kept, and want of memory stays what it is.
abbrev pub IsFaultIn : {E : Type 0} → List ℕ → SchemeFault E → ProvingError E → Type 0
IsFaultIn name (Refused reason) (ProvingError.Pcs phase source) = (phase.now ≡ name) × (source ≡ reason)
IsFaultIn name OutOfMemory ProvingError.OutOfMemory = ⊤
IsFaultIn name fault error = ⊥

-- The name that is written of a shape that doesn't fit: that of its case.
abbrev pub shape_error_name : InvalidProofShapeError → List ℕ
shape_error_name shape.InstanceCountMismatch = codes "InstanceCountMismatch"
shape_error_name (shape.TraceLocalWidthMismatch air expected got) = codes "TraceLocalWidthMismatch"
shape_error_name (shape.TraceNextMismatch air) = codes "TraceNextMismatch"
shape_error_name (shape.UnexpectedTraceNext air) = codes "UnexpectedTraceNext"
shape_error_name (shape.UnexpectedPreprocessedNext air) = codes "UnexpectedPreprocessedNext"
shape_error_name (shape.QuotientChunksCountMismatch air expected got) = codes "QuotientChunksCountMismatch"
shape_error_name (shape.QuotientChunkDimensionMismatch air) = codes "QuotientChunkDimensionMismatch"
shape_error_name (shape.QuotientDomainsCountMismatch air) = codes "QuotientDomainsCountMismatch"
shape_error_name (shape.PreprocessedTraceWidthMismatch expected_local expected_next got_local got_next) = codes "PreprocessedTraceWidthMismatch"
shape_error_name shape.PreprocessedVerifierKeyInconsistency = codes "PreprocessedVerifierKeyInconsistency"
shape_error_name (shape.PreprocessedDegreeMismatch vk_degree_bits proof_degree_bits) = codes "PreprocessedDegreeMismatch"
shape_error_name (shape.PreprocessedWidthMismatch air) = codes "PreprocessedWidthMismatch"
shape_error_name (shape.UnexpectedPreprocessedValues air) = codes "UnexpectedPreprocessedValues"
shape_error_name (shape.DegreeBitsTooSmall air minimum got) = codes "DegreeBitsTooSmall"
shape_error_name (shape.DegreeBitsTooLarge air maximum got) = codes "DegreeBitsTooLarge"
shape_error_name (shape.QuotientDomainTooLarge air maximum got) = codes "QuotientDomainTooLarge"
shape_error_name (shape.MissingPreprocessedValues air) = codes "MissingPreprocessedValues"
shape_error_name (shape.PreprocessedMetadataMismatch air) = codes "PreprocessedMetadataMismatch"
shape_error_name (shape.PublicValuesLengthMismatch expected got) = codes "PublicValuesLengthMismatch"
shape_error_name shape.OpenedValuesDimensionMismatch = codes "OpenedValuesDimensionMismatch"
shape_error_name shape.NonCanonicalAlphaPowWitness = codes "NonCanonicalAlphaPowWitness"
shape_error_name shape.NonCanonicalOodPowWitness = codes "NonCanonicalOodPowWitness"
