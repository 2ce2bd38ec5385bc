-- What setting up a preprocessed trace answers.
use Rattle.std.specs.Prelude.{◌≡◌, ℕ, ◌+◌, ◌*◌, ◌^◌, ◌<◌, ◌≤◌, Bool, false, nat_lt, List, [], ◌∷◌, length, Option, None, Some}
use Rattle.stark_support.specs.Ring.{RingOps}
use Rattle.stark_support.specs.Scheme.{SchemeOps, TakesRows, matrix_row, natural_coset, zk_bits}
use Rattle.stark_support.specs.declared.scheme.SchemeFault.TheVariants.{Refused}
use Rattle.stark_air.specs.Declaration.{Trace}
use Rattle.stark_transcript.specs.Errors.{IsFaultIn}
use Rattle.stark_transcript.specs.declared.error.ProvingError.{ProvingError}
use Rattle.stark_protocol.specs.declared.preprocessed.PreprocessedProverData.{PreprocessedProverData}
use Rattle.stark_protocol.specs.declared.preprocessed.PreprocessedVerifierKey.{PreprocessedVerifierKey}

-- There is a trace, and it has columns.
abbrev pub has_columns : {F : Type 0} → Option (Trace F) → Bool
has_columns None = false
has_columns (Some trace) = nat_lt 0 trace.width

-- A trace that has columns has 2 ^ log_height rows.
abbrev pub HasHeight : {F : Type 0} → ℕ → Option (Trace F) → Type 0
HasHeight {F = F} log_height declared = (trace : Trace F) → declared ≡ Some trace → 0 < trace.width → length trace.values ≡ 2 ^ log_height * trace.width

-- A trace that has columns is committed at 2 ^ log_height rows, at most 2 ^ greatest.
abbrev pub IsCommittedWithin : {F : Type 0} → ℕ → ℕ → Option (Trace F) → Type 0
IsCommittedWithin {F = F} log_height greatest declared = (trace : Trace F) → declared ≡ Some trace → 0 < trace.width → log_height ≤ greatest

-- Prover's data and verifier's key of a trace of 2 ^ log_height rows: both hold its width, the committed height's logarithm
-- and the same commitment, which the scheme's call for what is known made of the trace, and which stands, with the prover's data,
-- for columns that take the trace's rows.
pub record IsSetUp {S F E C K T P X Y : Type 0} (scheme : SchemeOps S F E C K T P X Y) (s : S) (field : RingOps F) (root : ℕ → F) (is_zk : Bool) (log_height : ℕ)
    (trace : Trace F) (prover : PreprocessedProverData K T) (key : PreprocessedVerifierKey K) : Type 0 where
  pub prover_width : prover.width ≡ trace.width
  pub key_width : key.width ≡ trace.width
  pub prover_degree : prover.degree_bits ≡ log_height + zk_bits is_zk
  pub key_degree : key.degree_bits ≡ log_height + zk_bits is_zk
  pub same : key.commitment ≡ prover.commitment
  pub made : scheme.calls.CommitsPreprocessing s (natural_coset field (log_height + zk_bits is_zk)) trace.values trace.width (prover.commitment, prover.prover_data)
  pub columns : List (List F)
  pub stands : scheme.Stands s prover.commitment prover.prover_data (record { domain = natural_coset field (log_height + zk_bits is_zk); columns = columns } ∷ [])
  pub takes : TakesRows field root (natural_coset field log_height) trace.width (matrix_row trace.values trace.width) columns

-- Why there is none: the scheme refuses, for a reason that it may have.
pub record IsSetUpFault {S F E C K T P X Y : Type 0} (scheme : SchemeOps S F E C K T P X Y) (s : S) (field : RingOps F) (is_zk : Bool) (log_height : ℕ) (name : List ℕ)
    (declared : Option (Trace F)) (error : ProvingError Y) : Type 0 where
  pub trace : Trace F
  pub declares : declared ≡ Some trace
  pub columns : 0 < trace.width
  pub reason : Y
  pub named : IsFaultIn name (Refused reason) error
  pub refuses : scheme.RefusesPreprocessing s (natural_coset field (log_height + zk_bits is_zk)) trace.values trace.width reason
