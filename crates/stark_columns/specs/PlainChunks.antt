-- Chunks of a quotient without masks.
use Rattle.std.specs.Prelude.{◌≡◌, ℕ, suc, ◌+◌, ◌*◌, ◌^◌, List, [], ◌∷◌, map, length, Some}
use Rattle.std.specs.List.{AllByRecursion, slice_get}
use Rattle.stark_support.specs.Ring.{RingOps}
use Rattle.stark_support.specs.Coset.{TwoAdicCoset, coset_part, coset_size}
use Rattle.stark_support.specs.Scheme.{MaskedColumn, QuotientChunk, TakesRows, matrix_row}
use Rattle.stark_support.specs.declared.matrix.RowMajorMatrix.{RowMajorMatrix}

-- As many lists of columns as parts of the coset: list i takes the rows i, i + 2 ^ log_parts, .. on part i, each column with as
-- many coefficients as the part points.
pub record ArePlainChunks {F : Type 0} (field : RingOps F) (root : ℕ → F) (coset : TwoAdicCoset F) (log_parts width count : ℕ) (row : ℕ → List F) (matrices : List (List (List F))) : Type 0 where
  pub number : length matrices ≡ count
  pub full : (i : ℕ) (columns : List (List F)) → slice_get matrices i ≡ Some columns → AllByRecursion (λ column. length column ≡ coset_size (coset_part field root coset log_parts i)) columns
  pub takes : (i : ℕ) (columns : List (List F)) → slice_get matrices i ≡ Some columns → TakesRows field root (coset_part field root coset log_parts i) width (λ r. row (i + r * 2 ^ log_parts)) columns

-- The lists of columns are so many chunks of the matrix on the coset.
abbrev pub AreChunksOf : {F : Type 0} → RingOps F → (ℕ → F) → TwoAdicCoset F → RowMajorMatrix F → ℕ → List (List (List F)) → Type 0
AreChunksOf field root coset flat count matrices = (log_parts : ℕ) → 2 ^ log_parts ≡ count
    → ArePlainChunks field root coset log_parts flat.width count (matrix_row flat.values.items flat.width) matrices

abbrev pub plain_column : {F : Type 0} → List F → MaskedColumn F
plain_column p = record { plain = p; mask = []; column = p }

abbrev pub plain_chunk : {F : Type 0} → TwoAdicCoset F → List (List F) → QuotientChunk F
plain_chunk part columns = record { part = part; columns = map plain_column columns }

-- The chunks on the parts from the i-th on.
abbrev pub plain_chunks : {F : Type 0} → RingOps F → (ℕ → F) → TwoAdicCoset F → ℕ → ℕ → List (List (List F)) → List (QuotientChunk F)
plain_chunks field root coset log_parts i [] = []
plain_chunks field root coset log_parts i (columns ∷ matrices) = plain_chunk (coset_part field root coset log_parts i) columns ∷ plain_chunks field root coset log_parts (suc i) matrices
