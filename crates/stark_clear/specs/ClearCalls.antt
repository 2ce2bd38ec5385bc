-- By which call a commitment in the clear was made: which masks its columns have.
use Rattle.std.specs.Prelude.{◌≡◌, ℕ, ◌-◌, ◌/◌, ◌^◌, List, [], ◌∷◌, length, map, IfOk, Option, Result}
use Rattle.std.specs.List.{AllByRecursion}
use Rattle.stark_support.specs.Ring.{RingOps}
use Rattle.stark_support.specs.Coset.{TwoAdicCoset, coset_size}
use Rattle.stark_support.specs.declared.matrix.RowMajorMatrix.{RowMajorMatrix}
use Rattle.stark_support.specs.Polynomial.{value}
use Rattle.stark_support.specs.Scheme.{CommittingCalls, matrix_row}
use Rattle.stark_support.specs.SchemeClauses.{CommitsChunks, OpeningOps, ProvesTrueClaims}
use Rattle.stark_columns.specs.ColumnPoints.{IsPolynomialBelow}
use Rattle.stark_clear.specs.Masks.{AreMaskedBy, AreMaskedChunks, mask_lists, quotient_masks, chunk_columns, masked_chunks}
use Rattle.stark_columns.specs.PlainChunks.{ArePlainChunks}
use Rattle.stark_clear.specs.Stops.{MaskedPcs}
use Rattle.std.specs.Borrow.{Bor}
use Rattle.std.specs.declared.vec.Vec.{Vec}
use Rattle.stark_columns.specs.Columns.{columns_list}

-- Each column is a polynomial of degree below the height: it has no mask.
abbrev pub ArePlain : {F : Type 0} → RingOps F → ℕ → List (List (List F)) → Type 0
ArePlain field height matrices = AllByRecursion (AllByRecursion (λ column. IsPolynomialBelow field height (value field column))) matrices

-- Of a commitment to a matrix, or to a quotient's values.
abbrev pub IsPlainCommitment : {F D : Type 0} → RingOps F → RowMajorMatrix F → List (List (List F)) × D → Type 0
IsPlainCommitment field matrix made = ArePlain field (length matrix.values.items / matrix.width) made.0

abbrev pub ArePlainChunksOf : {F : Type 0} → RingOps F → (ℕ → F) → TwoAdicCoset F → List F → ℕ → ℕ → List (List (List F)) → Type 0
ArePlainChunksOf field root domain values width count matrices =
    (log_parts : ℕ) → 2 ^ log_parts ≡ count → ArePlainChunks field root domain log_parts width count (matrix_row values width) matrices

abbrev pub IsPlainQuotient : {F D : Type 0} → RingOps F → (ℕ → F) → TwoAdicCoset F → RowMajorMatrix F → ℕ → List (List (List F)) × D → Type 0
IsPlainQuotient field root domain flat count made = ArePlainChunksOf field root domain flat.values.items flat.width count made.0

-- Each column is masked by values of a list, from its start.
abbrev pub AreMaskedColumns : {F : Type 0} → RingOps F → List F → TwoAdicCoset F → List F → ℕ → List (List F) → Type 0
AreMaskedColumns field masks domain values width columns =
    AreMaskedBy field (length values / width) (mask_lists field masks 0 width (coset_size domain - length values / width)) columns

abbrev pub AreMaskedRows : {F : Type 0} → RingOps F → List F → TwoAdicCoset F → List F → ℕ → List (List (List F)) → Type 0
AreMaskedRows field masks domain values width matrices = AllByRecursion (AreMaskedColumns field masks domain values width) matrices

abbrev pub IsMaskedMatrix : {F A B : Type 0} → RingOps F → List F → TwoAdicCoset F → RowMajorMatrix F → Vec (Vec F A) B → Type 0
IsMaskedMatrix field masks domain matrix columns = AreMaskedColumns field masks domain matrix.values.items matrix.width (columns_list columns)

abbrev pub IsMaskedCommitment : {F D : Type 0} → RingOps F → List F → TwoAdicCoset F → RowMajorMatrix F → List (List (List F)) × D → Type 0
IsMaskedCommitment field masks domain matrix made = AreMaskedRows field masks domain matrix.values.items matrix.width made.0

-- So are the chunks of a quotient.
abbrev pub AreMaskedChunksOf : {F : Type 0} → RingOps F → (F → F) → (ℕ → F) → List F → TwoAdicCoset F → List F → ℕ → ℕ → List (List (List F)) → Type 0
AreMaskedChunksOf {F} field inverse root masks domain values width count matrices = (plain : List (List (List F))) × ((log_parts : ℕ) → 2 ^ log_parts ≡ count
    → AreMaskedChunks field inverse root domain log_parts width (matrix_row values width) (quotient_masks field masks (count - 1) width (2 ^ (domain.log_size - log_parts))) plain matrices)

abbrev pub IsMaskedQuotient : {F D : Type 0} → RingOps F → (F → F) → (ℕ → F) → List F → TwoAdicCoset F → RowMajorMatrix F → ℕ → List (List (List F)) × D → Type 0
IsMaskedQuotient field inverse root masks domain flat count made = AreMaskedChunksOf field inverse root masks domain flat.values.items flat.width count made.0

-- So many columns of masks.
abbrev pub AreMasks : {F D : Type 0} → RingOps F → List F → ℕ → TwoAdicCoset F → List (List (List F)) × D → Type 0
AreMasks field masks dimension domain made = made.0 ≡ mask_lists field masks 0 dimension (coset_size domain) ∷ []

-- Without masks. There is no random commitment.
abbrev pub clear_calls : {S F : Type 0} → RingOps F → (ℕ → F) → CommittingCalls S F (List (List (List F))) (List (List (List F)))
clear_calls field root = record {
  Commits = λ s domain values width made. ArePlain field (length values / width) made.0;
  CommitsPreprocessing = λ s domain values width made. ArePlain field (length values / width) made.0;
  CommitsQuotient = λ s domain values width count made. ArePlainChunksOf field root domain values width count made.0;
  Randomizes = λ s domain made. ⊥;
}

-- With masks from the scheme's list, from its start at each call. What is known has none.
abbrev pub masked_calls : {F : Type 0} → RingOps F → (F → F) → (ℕ → F) → ℕ → CommittingCalls (MaskedPcs F) F (List (List (List F))) (List (List (List F)))
masked_calls {F = F} field inverse root dimension = record {
  Commits = λ s domain values width made. AreMaskedRows field s.masks domain values width made.0;
  CommitsPreprocessing = λ s domain values width made. ArePlain field (length values / width) made.0;
  CommitsQuotient = λ s domain values width count made. AreMaskedChunksOf field inverse root s.masks domain values width count made.0;
  Randomizes = λ s domain made. AreMasks field s.masks dimension domain made;
}

-- The columns of chunks are their plain ones, each with its mask, on these parts.
abbrev pub MasksChunks : {F A B A₂ B₂ A₃ B₃ : Type 0} → RingOps F → (F → F) → List (TwoAdicCoset F) → List (Vec (Vec F A) B) → List (Vec (Vec F A₂) B₂) → List (Vec (Vec F A₃) B₃) → Type 0
MasksChunks field inverse parts plain masks chunks =
    map columns_list chunks ≡ chunk_columns (masked_chunks field inverse parts (map columns_list plain) (map columns_list masks))

-- Those of a quotient's values.
abbrev pub IsMaskedOf : {F A B : Type 0} → RingOps F → (F → F) → (ℕ → F) → List F → TwoAdicCoset F → RowMajorMatrix F → ℕ → List (Vec (Vec F A) B) → Type 0
IsMaskedOf field inverse root masks domain flat count chunks = AreMaskedChunksOf field inverse root masks domain flat.values.items flat.width count (map columns_list chunks)

-- ---- of what a call answers

-- Where something was made of a quotient, it stands for its chunks.
abbrev pub ChunksStand : {S F E C K T P X Y Z : Type 0} → OpeningOps S F E C K T P X Y → S → TwoAdicCoset F → RowMajorMatrix F → ℕ → Result (K × T) Z → Type 0
ChunksStand ops s domain flat count result = IfOk result (CommitsChunks ops s domain flat count)

-- A complete scheme accepts the true claims of the rounds by this proof.
abbrev pub ProvesOpening : {S F E C K T P X Y A B G Q : Type 0} → OpeningOps S F E C K T P X Y → S → Vec (Bor T × Vec (Vec E A) B) G → C → Option ℕ → Q × P → Type 0
ProvesOpening ops s rounds state index opened = ProvesTrueClaims ops.scheme ops.fields.ring ops.fields.embed s rounds state index opened
