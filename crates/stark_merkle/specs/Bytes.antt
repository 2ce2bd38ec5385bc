-- The bytes of rows and of pairs, which the leaves of trees are the digests of.
use Rattle.std.specs.Prelude.{◌≡◌, ◌<◌, ◌^◌, ℕ, List, [], ◌∷◌, ◌++◌, length}
use Rattle.std.specs.Int.{bytes_high_first}
use Rattle.std.specs.List.{AllByRecursion}
use Rattle.stark_support.specs.Seed.{number}
use Rattle.stark_merkle.specs.Tree.{HashCollision, IsDigest, LeadsTo, TreeDigests}

-- An element's number in `size` bytes, the high one first.
unfoldable pub element_bytes : {F : Type 0} → ℕ → (F → ℕ) → F → List ℕ
element_bytes size number_of x = bytes_high_first size (number_of x)

-- Each element's bytes, in turn.
unfoldable pub elements_bytes : {F : Type 0} → (F → List ℕ) → List F → List ℕ
elements_bytes bytes_of [] = []
elements_bytes bytes_of (x ∷ xs) = bytes_of x ++ elements_bytes bytes_of xs

-- For each row how many elements it has, in 8 bytes, and these.
unfoldable pub rows_bytes : {F : Type 0} → (F → List ℕ) → List (List F) → List ℕ
rows_bytes bytes_of [] = []
rows_bytes bytes_of (row ∷ rows) = number (length row) ++ (elements_bytes bytes_of row ++ rows_bytes bytes_of rows)

-- The number of rows, in 8 bytes, and the rows.
abbrev pub row_bytes_of : {F : Type 0} → (F → List ℕ) → List (List F) → List ℕ
row_bytes_of bytes_of rows = number (length rows) ++ rows_bytes bytes_of rows

-- The coordinates of both.
abbrev pub pair_bytes_of : {F E : Type 0} → (F → List ℕ) → (E → List F) → E → E → List ℕ
pair_bytes_of bytes_of coordinates x y = elements_bytes bytes_of (coordinates x) ++ elements_bytes bytes_of (coordinates y)

-- ---- what they tell

-- As many rows as a word counts, and each of as many elements.
abbrev pub IsCounted : {F : Type 0} → List (List F) → Type 0
IsCounted rows = (length rows < 2 ^ 64) × AllByRecursion (λ row. length row < 2 ^ 64) rows

-- Rows with the same bytes are the same.
abbrev pub RowBytesTell : {F : Type 0} → (F → List ℕ) → Type 0
RowBytesTell {F} bytes_of = (rows others : List (List F)) → IsCounted rows → IsCounted others → row_bytes_of bytes_of rows ≡ row_bytes_of bytes_of others → rows ≡ others

-- Pairs with the same bytes are the same.
abbrev pub PairBytesTell : {F E : Type 0} → (F → List ℕ) → (E → List F) → Type 0
PairBytesTell {F} {E} bytes_of coordinates = (x y other_x other_y : E)
    → pair_bytes_of bytes_of coordinates x y ≡ pair_bytes_of bytes_of coordinates other_x other_y → (x ≡ other_x) × (y ≡ other_y)

-- Of one place of one tree other rows are accepted only where the hash has a collision.
abbrev pub OpenedRowsBind : {F : Type 0} → TreeDigests → (F → List ℕ) → ℕ → ℕ → Type 0
OpenedRowsBind {F} hash bytes_of depth i = (root : List ℕ) (rows others : List (List F)) (p q : List (List ℕ)) → AllByRecursion IsDigest p → AllByRecursion IsDigest q
    → IsCounted rows → IsCounted others → (rows ≡ others → ⊥)
    → LeadsTo hash root depth i (row_bytes_of bytes_of rows) p → LeadsTo hash root depth i (row_bytes_of bytes_of others) q → HashCollision hash
