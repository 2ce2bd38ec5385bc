-- Rows of matrices and of tables that stand in one lane of packed values.
use Rattle.std.proofs.Common.{◌≡◌, ◌≢◌, ◌∙◌, ◌++◌, ◌<◌, ◌≤◌, ◌+◌, ◌*◌, ◌-◌, ◌/◌, ◌%◌, ℕ, zero, suc, List, [], ◌∷◌, Option, None, Some, IfSome, length, option_map, take, drop, slice_index_or, ap, subst, sym, arith, refl}
use Rattle.std.specs.List.{slice_get}
use Rattle.std.proofs.Math.Seq.{drop-cons, take-length}
use Rattle.std.proofs.Math.Nat.{mod-add-div, mul-div_cancel, mul-le-mul_right}
use Rattle.std.proofs.lemmas.List.{length-drop, length-take-le, map-append}
use Rattle.std.proofs.lemmas.Option.{get_or_from_slice_get, slice_get-get_or, slice_get-map, slice_get_past, slice_get_within}
use Rattle.stark_support.specs.Scheme.{matrix_row}
use Rattle.stark_support.proofs.CellSteps.{whole_row}
use Rattle.stark_air.specs.Declaration.{Trace}
use Rattle.stark_prover_folder.specs.Finalized.{lane_values}
use Rattle.stark_quotient.specs.PointwiseQuotient.{HasShape, matrix_or_empty, round_row}

-- an element of a list that has some
front : {F : Type 0} {n : ℕ} (values : List F) → n < length values → F
front [] some = absurd (omega arith)
front (x ∷ values) some = x

no_rest : {F : Type 0} (n start i : ℕ) → slice_get {X = F} (take n (drop start [])) i ≡ slice_get {X = F} [] i
no_rest zero start i = refl
no_rest (suc n) zero i = refl
no_rest (suc n) (suc start) i = refl

pub at_place : {F : Type 0} (values : List F) (k : ℕ) → k < length values → (x : F) × (slice_get values k ≡ Some x)
at_place values k within = (slice_index_or values k (front values within), slice_get-get_or values k (front values within) within)

-- What stands in a list from a place on.
pub rest_at : {F : Type 0} (values : List F) (start i : ℕ) → slice_get (take (length values - start) (drop start values)) i ≡ slice_get values (start + i)
rest_at values zero i =
    ap (λ n. slice_get (take n values) i) (let e : length values - 0 ≡ length values = omega arith in e) ∙ ap (λ l. slice_get l i) (take-length values) ∙ ap (slice_get values) (let e : i ≡ 0 + i = omega arith in e)
rest_at [] (suc start) i = no_rest (0 - suc start) (suc start) i ∙ slice_get_past [] i (omega arith) ∙ sym (slice_get_past [] (suc start + i) (omega arith))
rest_at (x ∷ values) (suc start) i =
    ap (λ n. slice_get (take n (drop start values)) i) (let e : suc (length values) - suc start ≡ length values - start = omega arith in e) ∙ rest_at values start i ∙ ap (slice_get (x ∷ values)) (let e : suc (start + i) ≡ suc start + i = omega arith in e)

pub rest_within : {F : Type 0} (values : List F) (start i : ℕ) → start + i < length values → i < length (take (length values - start) (drop start values))
rest_within values start i within = slice_get_within _ i (slice_index_or values (start + i) (front values within)) (rest_at values start i ∙ slice_get-get_or values (start + i) (front values within) within)

module _ {F P : Type 0} (lanes : P → List F) (blank : F) (i : ℕ) where
  -- the values from place a on, one a packed value
  values_in_lane : (values : List F) (a : ℕ) (packed : List P) → a + length packed ≤ length values → ((c : ℕ) (p : P) → slice_get packed c ≡ Some p → slice_get (lanes p) i ≡ slice_get values (a + c))
      → lane_values lanes i blank packed ≡ take (length packed) (drop a values)
  values_in_lane values a [] within each = refl
  values_in_lane values a (p ∷ ps) within each =
      let here : a < length values = omega arith in
      let first = each 0 p refl ∙ ap (slice_get values) (let e : a + 0 ≡ a = omega arith in e) ∙ slice_get-get_or values a blank here in
      ap (λ x. x ∷ lane_values lanes i blank ps) (get_or_from_slice_get (lanes p) i (slice_index_or values a blank) blank first) ∙
      ap (λ l. slice_index_or values a blank ∷ l)
      (values_in_lane values (suc a) ps (omega arith) (λ c q h. each (suc c) q h ∙ ap (slice_get values) (let e : a + suc c ≡ suc a + c = omega arith in e))) ∙
      sym (ap (take (suc (length ps))) (drop-cons values a blank here))

  row_in_lane : (values : List F) (width row : ℕ) (packed : List P) → length packed ≡ width → row < length values / width → ((c : ℕ) (p : P) → slice_get packed c ≡ Some p → slice_get (lanes p) i ≡ slice_get values (row * width + c))
      → lane_values lanes i blank packed ≡ matrix_row values width row
  row_in_lane values width row packed number below each =
      values_in_lane values (row * width) packed (let whole = whole_row row width (length values) below in omega (arith, whole, number)) each ∙
      ap (λ n. take n (drop (row * width) values)) (let e : length packed ≡ row * width + width - row * width = omega (arith, number) in e)

  -- Two rows, one after the other.
  pub rows_in_lane : (values : List F) (width row later : ℕ) (pair first next : List P) → pair ≡ first ++ next → length first ≡ width → length next ≡ width → row < length values / width → later < length values / width
      → ((c : ℕ) (p : P) → slice_get first c ≡ Some p → slice_get (lanes p) i ≡ slice_get values (row * width + c)) → ((c : ℕ) (p : P) → slice_get next c ≡ Some p → slice_get (lanes p) i ≡ slice_get values (later * width + c))
      → lane_values lanes i blank pair ≡ matrix_row values width row ++ matrix_row values width later
  rows_in_lane values width row later pair first next is number number_next below below_next each each_next =
      ap (lane_values lanes i blank) is ∙ map-append (λ v. slice_index_or (lanes v) i blank) first next ∙
      ap (λ l. l ++ lane_values lanes i blank next) (row_in_lane values width row first number below each) ∙
      ap (λ l. matrix_row values width row ++ l) (row_in_lane values width later next number_next below_next each_next)

-- ---- rows taken round the end

no_columns : {F : Type 0} (values : List F) (row : ℕ) → matrix_row values 0 row ≡ []
no_columns values row = ap (λ n. take n (drop (row * 0) values)) (let e : row * 0 + 0 - row * 0 ≡ 0 = omega arith in e)

round_is : {F : Type 0} (values : List F) (width size r : ℕ) → length values ≡ size * width → matrix_row values width (r % (length values / width)) ≡ matrix_row values width (r % size)
round_is values zero size r number = no_columns values (r % (length values / 0)) ∙ sym (no_columns values (r % size))
round_is values (suc width) size r number = ap (λ n. matrix_row values (suc width) (r % n)) (ap (λ n. n / suc width) number ∙ mul-div_cancel size (omega arith))

-- Of a matrix of so many rows: the row of a number below.
row_round : {F : Type 0} (matrix : Trace F) (size r row : ℕ) → length matrix.values ≡ size * matrix.width → r % size ≡ row → round_row matrix r ≡ matrix_row matrix.values matrix.width row
row_round matrix size r row number is = round_is matrix.values matrix.width size r number ∙ ap (matrix_row matrix.values matrix.width) is

pub two_round : {F : Type 0} (matrix : Trace F) (size r s row later : ℕ) → length matrix.values ≡ size * matrix.width → r % size ≡ row → s % size ≡ later → (both : List F) → both ≡ round_row matrix r ++ round_row matrix s
    → both ≡ matrix_row matrix.values matrix.width row ++ matrix_row matrix.values matrix.width later
two_round matrix size r s row later number here there both is =
    is ∙ ap (λ l. l ++ round_row matrix s) (row_round matrix size r row number here) ∙ ap (λ l. matrix_row matrix.values matrix.width row ++ l) (row_round matrix size s later number there)

pub row_number : {F : Type 0} (values : List F) (width size row : ℕ) → length values ≡ size * width → row < size → length (matrix_row values width row) ≡ width
row_number values width size row number below =
    let fits = mul-le-mul_right {m = row + 1} {n = size} width (omega arith) in
    let rest = length-drop (row * width) values in
    length-take-le (row * width + width - row * width) (drop (row * width) values) (omega (arith, fits, rest)) ∙ (let e : row * width + width - row * width ≡ width = omega arith in e)

-- Some lane, read: it has the value that is there, or else the filler.
pub lane_read : {F : Type 0} (xs : List F) (i : ℕ) (blank : F) → i < length xs → slice_get xs i ≡ Some (slice_index_or xs i blank)
lane_read xs i blank within = slice_get-get_or xs i blank within

-- One lane of the packed rows of a table.
pub table_in_lane : {F P : Type 0} (lanes : P → List F) (blank : F) (i : ℕ) (packed : List P) (width c : ℕ) (value : ℕ → Option F) → ((p : P) → i < length (lanes p)) → length packed ≡ width
    → ((c : ℕ) (p : P) → slice_get packed c ≡ Some p → slice_get (lanes p) i ≡ value c) → c < width → slice_get (lane_values lanes i blank packed) c ≡ value c
table_in_lane lanes blank i packed width c value wide number each below =
    let p = at_place packed c (omega (arith, number)) in
    slice_get-map (λ v. slice_index_or (lanes v) i blank) packed c ∙ ap (option_map (λ v. slice_index_or (lanes v) i blank)) p.1 ∙
    sym (lane_read (lanes p.0) i blank (wide p.0)) ∙ each c p.0 p.1

-- What begins again after so many begins again after any number of times as many.
pub begins_again : {A : Type 0} (value : ℕ → A) (period : ℕ) → ((r : ℕ) → value (r + period) ≡ value r) → (times r : ℕ) → value (r + times * period) ≡ value r
begins_again value period again zero r = ap value (let e : r + zero * period ≡ r = omega arith in e)
begins_again value period again (suc times) r = ap value (let e : r + suc times * period ≡ r + times * period + period = omega arith in e) ∙ again (r + times * period) ∙ begins_again value period again times r

pub in_period : {A : Type 0} (value : ℕ → A) (period : ℕ) → ((r : ℕ) → value (r + period) ≡ value r) → (start r : ℕ) → value (start % period + r) ≡ value (start + r)
in_period value period again start r =
    let parts = mod-add-div start period in
    sym (begins_again value period again (start / period) (start % period + r)) ∙ ap value (let e : start % period + r + start / period * period ≡ start + r = omega (arith, parts) in e)

-- A matrix of some columns that has the shape of one with rows has rows.
pub rows_there : {M N F : Type 0} (now : M → N) (view : N → Trace F) (width size : ℕ) (obtained : Option M) → 0 < size → HasShape width size (matrix_or_empty (option_map (λ m. view (now m)) obtained))
    → IfSome (option_map now obtained) (λ m. (view m).width ≢ 0 → 0 < length (view m).values / (view m).width)
rows_there now view width size None some shape = tt
rows_there now view width size (Some m) some shape = λ wide.
    let columns = (view (now m)).width in
    let e = ap (λ n. n / columns) shape.number ∙ mul-div_cancel size (let above : 0 < columns = omega (arith, wide) in above) in
    subst (λ n. 0 < n) (sym e) some
