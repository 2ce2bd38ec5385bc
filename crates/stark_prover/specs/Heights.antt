-- How many rows a trace has, and for how many a scheme has room.
use Rattle.std.specs.Prelude.{◌≡◌, ℕ, ◌+◌, ◌*◌, ◌^◌, ◌≤◌, Bool, List, Option, IfSome, length}
use Rattle.stark_support.specs.Ring.{RingOps}
use Rattle.stark_support.specs.Scheme.{SchemeOps, zk_bits}
use Rattle.stark_support.specs.declared.matrix.RowMajorMatrix.{RowMajorMatrix}
use Rattle.stark_protocol.specs.declared.preprocessed.PreprocessedProverData.{PreprocessedProverData}
use Rattle.stark_prover.specs.CommittedColumns.{IsPreprocessedCommitment}

-- The trace has 2 ^ height rows.
abbrev pub IsOfHeight : {F : Type 0} → RowMajorMatrix F → ℕ → Type 0
IsOfHeight trace height = length trace.values.items ≡ 2 ^ height * trace.width

-- Preprocessed columns are committed to at 2 ^ degree_bits rows.
abbrev pub IsCommittedAt : {K T : Type 0} → Option (PreprocessedProverData K T) → ℕ → Type 0
IsCommittedAt preprocessed_data degree_bits = IfSome preprocessed_data (λ h. h.degree_bits ≡ degree_bits)

module _ {S F E C K T P X Y : Type 0} (scheme : SchemeOps S F E C K T P X Y) (s : S) where
  -- The scheme has room for 2 ^ height rows, twice as many in zero knowledge.
  abbrev pub HasRoom : Bool → ℕ → Type 0
  HasRoom is_zk height = height + zk_bits is_zk ≤ scheme.log_max_trace_height s

  -- The trace has a height for which the scheme has room,
  abbrev pub FitsScheme : Bool → RowMajorMatrix F → Type 0
  FitsScheme is_zk trace = (height : ℕ) × IsOfHeight trace height × HasRoom is_zk height

  -- and at which the preprocessed columns are committed to.
  abbrev pub FitsSchemeBeside : Bool → Option (PreprocessedProverData K T) → RowMajorMatrix F → Type 0
  FitsSchemeBeside is_zk preprocessed_data trace = (height : ℕ) × IsOfHeight trace height × HasRoom is_zk height × IsCommittedAt preprocessed_data (height + zk_bits is_zk)

  -- The data stand for so many columns.
  abbrev pub HoldsColumns : RingOps F → Option (PreprocessedProverData K T) → ℕ → Type 0
  HoldsColumns base preprocessed_data width = (preprocessed : List (List F)) × IsPreprocessedCommitment scheme s base preprocessed preprocessed_data × (length preprocessed ≡ width)
