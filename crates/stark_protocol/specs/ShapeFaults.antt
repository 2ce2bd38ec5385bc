-- Why a proof's shape is refused: each test is the error that it finds, and None where it finds none.
use Rattle.std.specs.Prelude.{ℕ, ◌+◌, Bool, true, false, not, ◌&&◌, ◌==◌, nat_lt, nat_le, List, length, Option, None, Some}
use Rattle.std.specs.List.{list_all}
use Rattle.std.specs.Option.{option_or}
use Rattle.stark_transcript.specs.declared.error.InvalidProofShapeError.{InvalidProofShapeError}
use Rattle.stark_transcript.specs.declared.error.InvalidProofShapeError.TheVariants.{DegreeBitsTooSmall, DegreeBitsTooLarge, UnexpectedPreprocessedValues, PreprocessedTraceWidthMismatch, UnexpectedPreprocessedNext, PreprocessedVerifierKeyInconsistency, PreprocessedDegreeMismatch, QuotientDomainTooLarge, PublicValuesLengthMismatch, TraceNextMismatch, UnexpectedTraceNext, OpenedValuesDimensionMismatch, NonCanonicalAlphaPowWitness, NonCanonicalOodPowWitness}
use Rattle.stark_transcript.specs.declared.error.VerificationError.{VerificationError}
use Rattle.stark_transcript.specs.declared.error.VerificationError.TheVariants.{RandomizationError}
use Rattle.stark_protocol.specs.declared.preprocessed.PreprocessedVerifierKey.{PreprocessedVerifierKey}
use Rattle.stark_proof.specs.ProofView.{PreprocessedView, OpeningsView}

-- an error, where a test says so
abbrev pub fault_if : {X : Type 0} → Bool → X → Option X
fault_if true error = Some error
fault_if false error = None

-- The committed height has at least the bits of the least one, at most those of the greatest one, and fits 64 bits.
abbrev pub degree_fault : Option ℕ → ℕ → ℕ → ℕ → ℕ → Option InvalidProofShapeError
degree_fault air degree_bits is_zk min_log_degree max_log_degree =
    option_or (fault_if (nat_lt degree_bits (is_zk + min_log_degree)) (DegreeBitsTooSmall air (is_zk + min_log_degree) degree_bits))
    (option_or (fault_if (nat_lt max_log_degree degree_bits) (DegreeBitsTooLarge air max_log_degree degree_bits))
    (fault_if (nat_le 64 degree_bits) (DegreeBitsTooLarge air 63 degree_bits)))

-- ---- preprocessed columns

-- The width in force: the key's where a key is given, and else the AIR's.
abbrev pub width_in_force : {K : Type 0} → Option (PreprocessedVerifierKey K) → ℕ → ℕ
width_in_force None air_width = air_width
width_in_force (Some key) air_width = key.width

-- an absent row has width 0
abbrev pub width_of : {E : Type 0} → Option (List E) → ℕ
width_of None = 0
width_of (Some row) = length row

-- how wide a next row is to be
abbrev pub expected_next : Bool → ℕ → ℕ
expected_next true width = width
expected_next false width = 0

-- The next row isn't there, where it isn't read.
abbrev pub unread_next_fault : {E : Type 0} → Bool → Option (List E) → Option InvalidProofShapeError
unread_next_fault true next = None
unread_next_fault false None = None
unread_next_fault false (Some row) = Some (UnexpectedPreprocessedNext None)

-- The opened rows have the width in force, the next one where the AIR reads it; at width 0 none is opened.
abbrev pub preprocessed_rows_fault : {E : Type 0} → ℕ → Bool → Option (PreprocessedView E) → Option InvalidProofShapeError
preprocessed_rows_fault width reads_next None = fault_if (nat_lt 0 width) (PreprocessedTraceWidthMismatch width (expected_next reads_next width) 0 0)
preprocessed_rows_fault width reads_next (Some rows) =
    option_or (fault_if (width == 0) (UnexpectedPreprocessedValues None))
    (option_or (fault_if (not (length rows.local == width && width_of rows.next == expected_next reads_next width))
    (PreprocessedTraceWidthMismatch width (expected_next reads_next width) (length rows.local) (width_of rows.next)))
    (unread_next_fault reads_next rows.next))

-- There is a key exactly where the AIR has preprocessed columns, and it has their width.
abbrev pub key_width_fault : {K : Type 0} → Option (PreprocessedVerifierKey K) → ℕ → Option InvalidProofShapeError
key_width_fault None air_width = fault_if (nat_lt 0 air_width) PreprocessedVerifierKeyInconsistency
key_width_fault (Some key) air_width = fault_if (not (nat_lt 0 key.width && key.width == air_width)) PreprocessedVerifierKeyInconsistency

-- The key is of the proof's height.
abbrev pub key_degree_fault : {K : Type 0} → Option (PreprocessedVerifierKey K) → ℕ → Option InvalidProofShapeError
key_degree_fault None degree_bits = None
key_degree_fault (Some key) degree_bits = fault_if (not (key.degree_bits == degree_bits)) (PreprocessedDegreeMismatch key.degree_bits degree_bits)

abbrev pub preprocessed_fault : {E K : Type 0} → Option (PreprocessedVerifierKey K) → ℕ → Bool → ℕ → Option (PreprocessedView E) → Option InvalidProofShapeError
preprocessed_fault key air_width reads_next degree_bits rows =
    option_or (preprocessed_rows_fault (width_in_force key air_width) reads_next rows)
    (option_or (key_width_fault key air_width) (key_degree_fault key degree_bits))

-- ---- the quotient's domain

-- The number of chunks and the size of the quotient's domain fit 64 bits, and the field has a group of that size.
abbrev pub quotient_fault : ℕ → ℕ → ℕ → ℕ → ℕ → Option InvalidProofShapeError
quotient_fault log_chunks is_zk degree_bits adicity greatest_height =
    option_or (fault_if (nat_le 64 (log_chunks + is_zk)) (QuotientDomainTooLarge None 63 (log_chunks + is_zk)))
    (option_or (fault_if (nat_le 64 (degree_bits + log_chunks)) (QuotientDomainTooLarge None 63 (degree_bits + log_chunks)))
    (fault_if (nat_lt adicity (degree_bits + log_chunks)) (QuotientDomainTooLarge None greatest_height (degree_bits + log_chunks))))

-- ---- the other openings

-- A random commitment and its opening are there under zero knowledge, and not without it.
abbrev pub randomization_fault : {K R X : Type 0} → Bool → Option K → Option R → Option (VerificationError X)
randomization_fault true (Some commitment) (Some row) = None
randomization_fault true (Some commitment) None = Some RandomizationError
randomization_fault true None row = Some RandomizationError
randomization_fault false None None = None
randomization_fault false None (Some row) = Some RandomizationError
randomization_fault false (Some commitment) row = Some RandomizationError

-- There are as many public values as the AIR reads.
abbrev pub public_values_fault : ℕ → ℕ → Option InvalidProofShapeError
public_values_fault expected got = fault_if (not (got == expected)) (PublicValuesLengthMismatch expected got)

-- The next row is opened where the AIR reads it, as wide as the AIR, and not where it doesn't.
abbrev pub trace_next_fault : {E : Type 0} → Bool → ℕ → Option (List E) → Option InvalidProofShapeError
trace_next_fault true width None = Some (TraceNextMismatch None)
trace_next_fault true width (Some row) = fault_if (not (length row == width)) (TraceNextMismatch None)
trace_next_fault false width None = None
trace_next_fault false width (Some row) = Some (UnexpectedTraceNext None)

-- a random row that is opened is as long as the extension's degree
abbrev pub random_fits : {E : Type 0} → ℕ → Option (List E) → Bool
random_fits dimension None = true
random_fits dimension (Some row) = length row == dimension

-- The row is as wide as the AIR; there are as many chunks as are committed, each as long as the extension's degree, and so
-- is the random row.
abbrev pub dimensions_fault : {E : Type 0} → ℕ → ℕ → ℕ → List E → List (List E) → Option (List E) → Option InvalidProofShapeError
dimensions_fault width chunks dimension local quotient_chunks random =
    fault_if (not (length local == width && (length quotient_chunks == chunks && (list_all (λ chunk. length chunk == dimension) quotient_chunks && random_fits dimension random)))) OpenedValuesDimensionMismatch

-- No witness but zero stands where no work is asked for; `is_zero` says whether it is zero, and the error is given.
abbrev pub witness_fault : InvalidProofShapeError → ℕ → Bool → Option InvalidProofShapeError
witness_fault error bits is_zero = fault_if (bits == 0 && not is_zero) error

-- The witness before alpha is tested before that before zeta.
abbrev pub opened_fault : {E : Type 0} → ℕ → ℕ → Bool → ℕ → ℕ → ℕ → OpeningsView E → ℕ → Bool → ℕ → Bool → Option InvalidProofShapeError
opened_fault expected_public_values public_values reads_next width chunks dimension opened alpha_bits alpha_is_zero bits is_zero =
    option_or (public_values_fault expected_public_values public_values)
    (option_or (trace_next_fault reads_next width opened.trace_next)
    (option_or (dimensions_fault width chunks dimension opened.trace_local opened.quotient_chunks opened.random)
    (option_or (witness_fault NonCanonicalAlphaPowWitness alpha_bits alpha_is_zero)
    (witness_fault NonCanonicalOodPowWitness bits is_zero))))
