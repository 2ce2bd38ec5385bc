-- What a tree over extended rows commits to.
use Rattle.std.specs.Prelude.{◌≡◌, ◌≤◌, ◌+◌, ◌*◌, ◌^◌, ℕ, List, [], ◌∷◌, length, map}
use Rattle.std.specs.List.{AllByRecursion, range_with_len}
use Rattle.stark_support.specs.Coset.{TwoAdicCoset, coset_point}
use Rattle.stark_support.specs.Ring.{RingOps}
use Rattle.stark_support.specs.Scheme.{matrix_row, row_at}
use Rattle.stark_support.specs.declared.matrix.RowMajorMatrix.{RowMajorMatrix}
use Rattle.std.specs.declared.vec.Vec.{Vec}
use Rattle.stark_columns.specs.Columns.{columns_list}
use Rattle.stark_fri.specs.Parts.{FriDataView}
use Rattle.stark_merkle.specs.Bytes.{element_bytes, row_bytes_of}
use Rattle.stark_merkle.specs.declared.root.Root.{Root}
use Rattle.stark_merkle.specs.Tree.{HasPath, IsPathIn, TreeDigests, digests_in, layer_above, layers_from}
pub use Rattle.stark_fri.specs.Scheme.{AreExtended, IsExtended, extension_of}

-- Row i of a matrix, and whether it is there.
abbrev pub row_of : {F : Type 0} → ℕ → RowMajorMatrix F → List F
row_of i matrix = matrix_row matrix.values.items matrix.width i

abbrev pub HasRow : {F : Type 0} → ℕ → RowMajorMatrix F → Type 0
HasRow i matrix = i * matrix.width + matrix.width ≤ length matrix.values.items

-- Each matrix has row i.
abbrev pub HaveRow : {F : Type 0} → ℕ → List (RowMajorMatrix F) → Type 0
HaveRow i matrices = AllByRecursion (HasRow i) matrices

-- Each matrix has the first count rows.
abbrev pub HaveRows : {F : Type 0} → ℕ → List (RowMajorMatrix F) → Type 0
HaveRows count matrices = (i : ℕ) → i + 1 ≤ count → HaveRow i matrices

-- The path of a leaf through layers that have one; no digests through others.
pub record IsPathOrNone (layers : List (List (List ℕ))) (place : ℕ) (digests : List (List ℕ)) : Type 0 where
  pub path : HasPath layers place → IsPathIn layers place digests
  pub none : (HasPath layers place → ⊥) → digests ≡ []

-- Leaf i of the tree over the matrices' rows.
-- The bytes of row i of each matrix, and its leaf.
abbrev pub text_at : {F : Type 0} → (F → List ℕ) → List (RowMajorMatrix F) → ℕ → List ℕ
text_at bytes_of extended i = row_bytes_of bytes_of (map (row_of i) extended)

abbrev pub leaf_at : {F : Type 0} → TreeDigests → (F → List ℕ) → List (RowMajorMatrix F) → ℕ → List ℕ
leaf_at hash bytes_of extended i = hash.leaf (text_at bytes_of extended i)

abbrev pub leaves_of : {F : Type 0} → TreeDigests → (F → List ℕ) → List (RowMajorMatrix F) → ℕ → List (List ℕ)
leaves_of hash bytes_of extended count = map (leaf_at hash bytes_of extended) (range_with_len 0 count)

-- Row i of the columns' values on the coset, a row a matrix.
abbrev pub extended_row : {F : Type 0} → RingOps F → (ℕ → F) → TwoAdicCoset F → List (List (List F)) → ℕ → List (List F)
extended_row ring root coset matrices i = map (λ columns. row_at ring (λ c. c) columns (coset_point ring root coset i)) matrices

-- The root of the tree over these rows.
abbrev pub IsRootOver : {F : Type 0} → RingOps F → (ℕ → F) → TreeDigests → (F → List ℕ) → TwoAdicCoset F → List (List (List F)) → List ℕ → Type 0
IsRootOver ring root hash bytes_of coset matrices top =
    layer_above hash.node coset.log_size (map (λ i. hash.leaf (row_bytes_of bytes_of (extended_row ring root coset matrices i))) (range_with_len 0 (2 ^ coset.log_size))) ≡ top ∷ []

-- The prover's data, as the scheme's definitions read them.
abbrev pub data_seen : {F A B G J : Type 0} → Root → ℕ → Vec (Vec (Vec F A) B) G → Vec (RowMajorMatrix F) J → FriDataView F
data_seen root log_height matrices extended = record { root = root; log_height = log_height; matrices = map columns_list matrices.items; extended = extended.items }

-- ---- of columns in memory

-- A matrix has the rows of another.
abbrev pub HasRowsOf : {F : Type 0} → RowMajorMatrix F → RowMajorMatrix F → Type 0
HasRowsOf stored rows = (rows.values.items ≡ stored.values.items) × (rows.width ≡ stored.width)

-- The columns' values on a coset are kept, and the root is that of the tree over them: of several matrices, and of one.
abbrev pub AreKept : {F A B J : Type 0} → RingOps F → (ℕ → F) → TwoAdicCoset F → List (Vec (Vec F A) B) → Vec (RowMajorMatrix F) J → Type 0
AreKept ring root coset matrices kept = AreExtended ring root coset (map columns_list matrices) kept.items

abbrev pub IsTopOver : {F A B : Type 0} → RingOps F → (ℕ → F) → F → TreeDigests → ℕ → (F → ℕ) → ℕ → List (Vec (Vec F A) B) → Root → Type 0
IsTopOver ring root generator hash size number_of bits matrices top = IsRootOver ring root hash (element_bytes size number_of) (extension_of generator bits) (map columns_list matrices) top.bytes

abbrev pub IsKept : {F A B J : Type 0} → RingOps F → (ℕ → F) → TwoAdicCoset F → Vec (Vec F A) B → Vec (RowMajorMatrix F) J → Type 0
IsKept ring root coset columns kept = AreExtended ring root coset (columns_list columns ∷ []) kept.items

abbrev pub IsTopOf : {F A B : Type 0} → RingOps F → (ℕ → F) → F → TreeDigests → ℕ → (F → ℕ) → ℕ → Vec (Vec F A) B → Root → Type 0
IsTopOf ring root generator hash size number_of bits columns top = IsRootOver ring root hash (element_bytes size number_of) (extension_of generator bits) (columns_list columns ∷ []) top.bytes

-- The layers of the tree over the first 2 ^ bits rows.
abbrev pub AreLayersOver : {F : Type 0} → TreeDigests → (F → List ℕ) → ℕ → List (RowMajorMatrix F) → List (List (List ℕ)) → Type 0
AreLayersOver hash bytes_of bits extended layers = layers ≡ layers_from hash.node bits (leaves_of hash bytes_of extended (2 ^ bits))

abbrev pub AreLayersIn : {F A B G : Type 0} → TreeDigests → ℕ → (F → ℕ) → ℕ → Vec (RowMajorMatrix F) A → Vec (Vec (List ℕ) B) G → Type 0
AreLayersIn hash size number_of bits extended layers = AreLayersOver hash (element_bytes size number_of) bits extended.items (digests_in layers.items)
