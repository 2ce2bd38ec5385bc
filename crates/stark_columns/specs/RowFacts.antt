-- Rows of values that are given row after row.
use Rattle.std.specs.Prelude.{◌≡◌, ℕ, zero, suc, ◌+◌, ◌-◌, ◌*◌, ◌^◌, ◌/◌, ◌<◌, ◌≤◌, List, [], ◌∷◌, length, take, Option, Some, option_map, refl}
use Rattle.std.specs.List.{AllByRecursion, flat_map, slice_get}
use Rattle.std.proofs.Common.{sym, ap, ◌∙◌, arith, drop, get_or, pow-add, subst}
use Rattle.std.proofs.Math.Nat.{add-mul, mul_assoc}
use Rattle.std.proofs.lemmas.List.{length-map}
use Rattle.std.proofs.lemmas.Option.{slice_get-map, slice_get-get_or, slice_get_past, same_Some}
use Rattle.stark_support.specs.Ring.{RingOps}
use Rattle.stark_support.specs.Coset.{TwoAdicCoset, coset_point, coset_size}
use Rattle.stark_support.specs.JoinedRows.{cut, row_of_joined}
use Rattle.stark_support.specs.Polynomial.{value}
use Rattle.stark_support.specs.Scheme.{HasRows, TakesRows, natural_coset, matrix_row, row_at}
use Rattle.stark_support.specs.SchemeFacts.{natural_of_size}
use Rattle.stark_support.proofs.CellSteps.{full_rows, whole_row}
use Rattle.stark_support.proofs.Coordinates.{joined_length}
use Rattle.stark_columns.specs.ColumnPoints.{AreColumns, points_of}
use Rattle.stark_columns.specs.ColumnFacts.{point_at, points_number}

none_here : {A : Type 0} (i j : ℕ) → ◌≡◌ {A = Option A} (slice_get [] i) (slice_get [] j)
none_here i j = slice_get_past [] i (omega arith) ∙ sym (slice_get_past [] j (omega arith))

-- The columns' values at all points of a coset, a row a point.
pub has_rows : {F : Type 0} (ring : RingOps F) (root : ℕ → F) (coset : TwoAdicCoset F) (columns : List (List F)) (points values : List F) (width : ℕ) → points ≡ points_of ring root coset
    → values ≡ flat_map (row_at ring (λ c. c) columns) points → width ≡ length columns → HasRows ring root coset columns values width
has_rows ring root coset columns points values width are joined wide =
    let each : (x : _) → length (row_at ring (λ c. c) columns x) ≡ width = λ x. length-map columns _ ∙ sym wide in
    record {
      takes = record {
        count = sym wide;
        rows = λ r below.
            ap (λ t. matrix_row t width r) joined
            ∙ row_of_joined (row_at ring (λ c. c) columns) width each points r (coset_point ring root coset r) (ap (λ t. slice_get t r) are ∙ point_at ring root coset r below);
      };
      number = ap length joined ∙ joined_length (row_at ring (λ c. c) columns) width each points ∙ ap (λ n. n * width) (ap length are ∙ points_number ring root coset);
    }

-- ---- rows that columns take

from_the_first : (i : ℕ) → i ≡ 0 + i
from_the_first i = omega arith

one_later : (k i : ℕ) → suc (k + i) ≡ suc k + i
one_later k i = omega arith

from_place_on : {A : Type 0} (k : ℕ) (xs : List A) (i : ℕ) → slice_get (drop k xs) i ≡ slice_get xs (k + i)
from_place_on zero xs i = ap (slice_get xs) (from_the_first i)
from_place_on (suc k) [] i = none_here i (suc k + i)
from_place_on (suc k) (x ∷ xs) i = from_place_on k xs i ∙ ap (slice_get (x ∷ xs)) (one_later k i)

up_to_place : {A : Type 0} (w : ℕ) (xs : List A) (i : ℕ) → i < w → slice_get (take w xs) i ≡ slice_get xs i
up_to_place zero xs i h = absurd (omega arith)
up_to_place (suc w) [] i h = refl
up_to_place (suc w) (x ∷ xs) zero h = refl
up_to_place (suc w) (x ∷ xs) (suc i) h = up_to_place w xs i (omega arith)

same_lists : {A : Type 0} (xs ys : List A) → length xs ≡ length ys → ((i : ℕ) → i < length xs → slice_get xs i ≡ slice_get ys i) → xs ≡ ys
same_lists [] [] n h = refl
same_lists [] (y ∷ ys) n h = absurd (omega arith)
same_lists (x ∷ xs) [] n h = absurd (omega arith)
same_lists (x ∷ xs) (y ∷ ys) n h =
    ap (λ t. t ∷ xs) (same_Some x y (h 0 (omega arith))) ∙ ap (λ t. y ∷ t) (same_lists xs ys (omega arith) (λ i b. h (suc i) (omega arith)))

length_cut : {A : Type 0} (xs : List A) (w k : ℕ) → k + w ≤ length xs → length (take w (drop k xs)) ≡ w
length_cut xs zero k h = refl
length_cut [] (suc w) k h = absurd (omega arith)
length_cut (x ∷ xs) (suc w) zero h = ap suc (length_cut xs w zero (omega arith))
length_cut (x ∷ xs) (suc w) (suc k) h = length_cut xs (suc w) k (omega arith)

module _ {F : Type 0} (ring : RingOps F) (root : ℕ → F) (coset : TwoAdicCoset F) (values : List F) (first step width size : ℕ) (columns : List (List F)) (are : AreColumns ring root coset values first step width size columns) (row : ℕ → ℕ)
    (place : (r c : ℕ) → first + c + r * step ≡ row r * width + c) (within : (r : ℕ) → r < coset_size coset → row r * width + width ≤ length values) where
  here : (r c : ℕ) → r < coset_size coset → c < width → slice_get (take width (drop (row r * width) values)) c ≡ slice_get (row_at ring (λ x. x) columns (coset_point ring root coset r)) c
  here r c below inside =
      let p : List F = get_or columns c [] in
      let there : slice_get columns c ≡ Some (get_or columns c []) = slice_get-get_or columns c [] (omega (arith, are.count)) in
      up_to_place width (drop (row r * width) values) c inside ∙ from_place_on (row r * width) values c ∙ ap (slice_get values) (sym (place r c))
      ∙ are.takes c r (get_or columns c []) there below
      ∙ sym (slice_get-map (λ q. value ring q (coset_point ring root coset r)) columns c ∙ ap (option_map (λ q. value ring q (coset_point ring root coset r))) there)

  -- Columns that take values at every step take the rows in which they stand.
  pub takes_rows : TakesRows ring root coset width (λ r. matrix_row values width (row r)) columns
  takes_rows = record {
    count = are.count;
    rows = λ r below.
        let number : length (take width (drop (row r * width) values)) ≡ width = length_cut values width (row r * width) (within r below) in
        cut values width (row r)
        ∙ same_lists (take width (drop (row r * width) values)) (row_at ring (λ x. x) columns (coset_point ring root coset r)) (number ∙ sym are.count ∙ sym (length-map columns _))
        (λ c h. here r c below (omega (arith, number)));
  }

-- ---- columns of a matrix on its own domain

pub all_listed : {A : Type 0} (P : A → Type 0) (xs : List A) → ((i : ℕ) (x : A) → slice_get xs i ≡ Some x → P x) → AllByRecursion P xs
all_listed P [] h = tt
all_listed P (x ∷ xs) h = (h 0 x refl, all_listed P xs (λ i y e. h (suc i) y e))

in_order : (r c width : ℕ) → 0 + c + r * width ≡ r * width + c
in_order r c width = omega arith

pub natural_rows : {F : Type 0} (ring : RingOps F) (root : ℕ → F) (coset : TwoAdicCoset F) (values : List F) (width size : ℕ) (columns : List (List F)) → AreColumns ring root coset values 0 width width size columns
    → coset.shift ≡ ring.one → coset_size coset ≡ length values / width → (k : ℕ) → 2 ^ k ≡ length values / width → TakesRows ring root (natural_coset ring k) width (matrix_row values width) columns
natural_rows ring root coset values width size columns are shift height k power =
    subst (λ d. TakesRows ring root d width (matrix_row values width) columns) (natural_of_size ring coset (length values / width) k shift height power)
    (takes_rows ring root coset values 0 width width size columns are (λ r. r) (λ r c. in_order r c width) (λ r below. whole_row r width (length values) (omega (arith, height, below))))

-- ---- the rows of a part

in_rows : (i r parts rows : ℕ) → i < parts → r < rows → i + r * parts < rows * parts
in_rows i r parts rows h k = let after = full_rows r rows parts k in omega arith

-- Value c of row i + r * parts, counted from the first of row i in steps of `parts` rows.
pub place_in_part : (i r parts width c : ℕ) → i * width + c + r * (parts * width) ≡ (i + r * parts) * width + c
place_in_part i r parts width c =
    let steps : r * (parts * width) ≡ r * parts * width = sym (mul_assoc r parts width) in
    let both : (i + r * parts) * width ≡ i * width + r * parts * width = add-mul i (r * parts) width in
    omega (arith, steps, both)

pub row_of_part_fits : (i r parts rows width count : ℕ) → i < parts → r < rows → count ≡ rows * parts * width → (i + r * parts) * width + width ≤ count
row_of_part_fits i r parts rows width count h k whole =
    let after = full_rows (i + r * parts) (rows * parts) width (in_rows i r parts rows h k) in
    omega (arith, after, whole)

pub cell_of_part_fits : (i r parts rows width c count : ℕ) → i < parts → r < rows → c < width → count ≡ rows * parts * width → i * width + c + r * (parts * width) < count
cell_of_part_fits i r parts rows width c count h k inside whole =
    let fits = row_of_part_fits i r parts rows width count h k whole in
    let place = place_in_part i r parts width c in
    omega (arith, fits, place, inside)

-- A coset's points are those of its parts.
pub size_in_parts : (k p : ℕ) → p ≤ k → 2 ^ k ≡ 2 ^ (k - p) * 2 ^ p
size_in_parts k p h = let split : k ≡ (k - p) + p = omega arith in ap (λ n. 2 ^ n) split ∙ pow-add 2 (k - p) p
