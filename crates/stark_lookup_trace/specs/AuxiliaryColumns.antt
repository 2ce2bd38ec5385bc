-- The auxiliary columns of rows whose groups of entries stand in one list, row by row.
use Rattle.std.specs.Prelude.{◌≡◌, ◌≢◌, ℕ, ◌+◌, ◌*◌, ⊤, All, List, [], ◌∷◌, ◌++◌, map, take, length, slice_get, slice_index_or, slice_range, Some}
use Rattle.std.specs.declared.vec.Vec.{Vec}
use Rattle.stark_support.specs.Ring.{RingOps}
use Rattle.stark_logup.specs.Columns.{entry_of, sum_below}
use Rattle.stark_logup.specs.Fractions.{AreHelpers, AuxiliaryColumns, Decides, Entry, IsBalanced, IsKeyOf, joined, list_sum, rows_below}
use Rattle.stark_lookup_trace.specs.declared.error.AuxiliaryError.{AuxiliaryError}
use Rattle.stark_lookup_trace.specs.declared.error.AuxiliaryError.TheVariants.{DrawIsKey, OutOfMemory}

-- the entries of keys with their multiplicities
abbrev pub entry_pairs : {K : Type 0} → List (K × K) → List (Entry K K)
entry_pairs pairs = map entry_of pairs

-- the groups' entries
abbrev pub entries_of : {K A : Type 0} → List (Vec (K × K) A) → List (List (Entry K K))
entries_of groups = map (λ g. entry_pairs g.items) groups

-- a value is the first that is zero
pub record IsFirstZero {K : Type 0} (none : K) (values : List K) (place : ℕ) : Type 0 where
  pub zero_there : slice_get values place ≡ Some none
  pub others_before : All (λ x. x ≢ none) (take place values)

-- each number times its neighbour in the other list
abbrev pub products : {K : Type 0} → RingOps K → List K → List K → List K
products ring [] ys = []
products ring (x ∷ xs) [] = []
products ring (x ∷ xs) (y ∷ ys) = ring.mul x y ∷ products ring xs ys

-- what stands in row r, of rows of `size` each
abbrev pub in_row : {A : Type 0} → ℕ → List A → ℕ → List A
in_row size xs r = slice_range xs (r * size) (r * size + size)

-- what the helpers of the rows before row r add up to
abbrev pub sum_before : {K : Type 0} → RingOps K → ℕ → List K → ℕ → K
sum_before ring size helpers r = sum_below ring (λ q. list_sum ring (in_row size helpers q)) r

-- each row's helpers, and after them that sum
abbrev pub rows_with_sums : {K : Type 0} → RingOps K → ℕ → List K → ℕ → List K
rows_with_sums ring size helpers rows = rows_below (λ r. in_row size helpers r ++ sum_before ring size helpers r ∷ []) rows

-- Values are those of a helper for each group and of the running sum, which begins with zero.
pub record AreColumns {K : Type 0} (ring : RingOps K) (gamma : K) (rows size : ℕ) (groups : List (List (Entry K K))) (values : List K) : Type 0 where
  pub helpers : List K
  pub help : AreHelpers ring gamma groups helpers
  pub values_are : values ≡ rows_with_sums ring size helpers rows

-- Values are those of columns that meet the constraints of lookups in each row.
pub record PassAsColumns {K : Type 0} (ring : RingOps K) (gamma : K) (rows size : ℕ) (groups : List (List (Entry K K))) (values : List K) : Type 0 where
  pub columns : AuxiliaryColumns ring gamma (in_row size groups) rows
  pub values_are : values ≡ rows_below (λ r. columns.helpers r ++ columns.sums r ∷ []) rows

-- They are, where of each key as much is received as is sent.
abbrev pub PassIfBalanced : {K : Type 0} → RingOps K → K → ℕ → ℕ → List (List (Entry K K)) → List K → Type 0
PassIfBalanced {K} ring gamma rows size groups values = (same : Decides K) → IsBalanced ring same (joined groups) → PassAsColumns ring gamma rows size groups values

-- Gamma is a key in this row, of a group of this lookup, and of no group before.
pub record IsFirstKey {K : Type 0} (gamma : K) (lookups : List ℕ) (groups : List (List (Entry K K))) (row lookup : ℕ) : Type 0 where
  pub group : ℕ
  pub of_lookup : slice_get lookups group ≡ Some lookup
  pub is_key : IsKeyOf gamma (slice_index_or groups (row * length lookups + group) [])
  pub none_before : All (λ g. IsKeyOf gamma g → ⊥) (take (row * length lookups + group) groups)

-- What an error says of gamma; want of memory says nothing.
abbrev pub NamesKey : {K : Type 0} → K → List ℕ → List (List (Entry K K)) → AuxiliaryError → Type 0
NamesKey gamma lookups groups (DrawIsKey row lookup) = IsFirstKey gamma lookups groups row lookup
NamesKey gamma lookups groups OutOfMemory = ⊤
