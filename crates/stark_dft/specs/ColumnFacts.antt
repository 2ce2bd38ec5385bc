-- Columns whose coefficients stand row after row.
use Rattle.std.specs.Prelude.{◌≡◌, ℕ, zero, suc, ◌+◌, ◌-◌, ◌*◌, ◌<◌, ◌≤◌, List, [], ◌∷◌, ◌++◌, length, map, take, drop, get_or, All, Some, refl}
use Rattle.std.proofs.Common.{sym, ap, ◌∙◌, arith, subst, inl, inr, add-one}
use Rattle.std.specs.List.{slice_get}
use Rattle.std.proofs.Math.Nat.{mul_comm, suc-mul, mul-suc}
use Rattle.std.proofs.lemmas.Nat.{row_fits, mul-add-lt}
use Rattle.std.proofs.lemmas.Bool.{cases_lt}
use Rattle.std.proofs.lemmas.List.{get_or-map, get_or-drop, get_or_append_left, get_or-append_right, length-map, length-drop, length-append}
use Rattle.std.proofs.lemmas.Option.{get_or_from_slice_get}
use Rattle.stark_support.specs.Ring.{RingOps, RingLaws}
use Rattle.stark_support.specs.RingSolver.{solve, nothing, ◌⊕◌, ◌⊗◌, v0}
use Rattle.stark_support.specs.Coset.{TwoAdicCoset, AreValuesOn, coset_point, coset_size}
use Rattle.stark_support.specs.Polynomial.{value, HasDegreeBelow}
use Rattle.stark_support.specs.Scheme.{HasRows, matrix_row, row_at}
use Rattle.stark_dft.specs.Passes.{entry}
use Rattle.stark_dft.specs.Strided.{strided, column_of, AreRowsOn}

pub place_later : (q h i : ℕ) → q + h + i * h ≡ q + suc i * h
place_later q h i = omega (arith, suc-mul i h)

pub place_here : (q h : ℕ) → q ≡ q + 0 * h
place_here q h = omega arith

row_alone : (i : ℕ) → i ≡ i * 1 + 0
row_alone i = omega arith

same_strided : {A : Type 0} (f g : ℕ → A) (q h n : ℕ) → ((j : ℕ) → f j ≡ g j) → strided f q h n ≡ strided g q h n
same_strided f g q h zero e = refl
same_strided f g q h (suc n) e = ap (λ t. t ∷ strided f (q + h) h n) (e q) ∙ ap (λ t. g q ∷ t) (same_strided f g (q + h) h n e)

-- Lists with the same coefficients, of which the one may end in zeros, have the same values.
pub same_rows : {K : Type 0} (ring : RingOps K) (root : ℕ → K) (coset : TwoAdicCoset K) (width : ℕ) (p q values : List K) → ((j : ℕ) → entry ring p j ≡ entry ring q j)
    → AreRowsOn ring root coset width p values → AreRowsOn ring root coset width q values
same_rows ring root coset width p q values same rows = record {
  number = rows.number;
  value_at = λ i c a b.
      rows.value_at i c a b ∙ ap (λ t. Some (value ring t (coset_point ring root coset i))) (same_strided (entry ring p) (entry ring q) c width (coset_size coset) same);
}

module _ {K : Type 0} {ring : RingOps K} (laws : RingLaws ring) where
  pub empty_step : (x : K) → ring.add ring.zero (ring.mul ring.zero x) ≡ ring.zero
  empty_step x = solve laws (x ∷ []) (nothing ⊕ nothing ⊗ v0) nothing refl

  -- A sequence that has the list's elements at its places, and zeros behind, has the list's values.
  pub value_strided : (xs : List K) (f : ℕ → K) (q h n : ℕ) (x : K) → length xs ≤ n → ((i : ℕ) → i < n → f (q + i * h) ≡ entry ring xs i) → value ring (strided f q h n) x ≡ value ring xs x
  value_strided [] f q h zero x room same = refl
  value_strided (c ∷ cs) f q h zero x room same = absurd (omega arith)
  value_strided [] f q h (suc n) x room same =
      ap (λ t. ring.add t (ring.mul (value ring (strided f (q + h) h n) x) x)) (ap f (place_here q h) ∙ same 0 (omega arith))
      ∙ ap (λ t. ring.add ring.zero (ring.mul t x)) (value_strided [] f (q + h) h n x (omega arith) (λ i below. ap f (place_later q h i) ∙ same (suc i) (omega arith)))
      ∙ empty_step x
  value_strided (c ∷ cs) f q h (suc n) x room same =
      ap (λ t. ring.add t (ring.mul (value ring (strided f (q + h) h n) x) x)) (ap f (place_here q h) ∙ same 0 (omega arith))
      ∙ ap (λ t. ring.add c (ring.mul t x)) (value_strided cs f (q + h) h n x (omega arith) (λ i below. ap f (place_later q h i) ∙ same (suc i) (omega arith)))

  one_by_one : (xs : List K) (i : ℕ) → entry ring xs (0 + i * 1) ≡ entry ring xs i
  one_by_one xs i = ap (entry ring xs) (omega arith)

  one_wide : (n m : ℕ) → n ≡ 1 * m → n ≡ m
  one_wide n m e = omega arith

  -- Rows of one column are the values in order.
  pub one_column : (root : ℕ → K) (coset : TwoAdicCoset K) (p values : List K) → length p ≤ coset_size coset → AreRowsOn ring root coset 1 p values → AreValuesOn ring root coset (coset_size coset) (value ring p) values
  one_column root coset p values room rows = record {
    number = one_wide (length values) (coset_size coset) rows.number;
    at_row = λ i h.
        ap (slice_get values) (row_alone i) ∙ rows.value_at i 0 h (omega arith)
        ∙ ap Some (value_strided p (entry ring p) 0 1 (coset_size coset) (coset_point ring root coset i) room (λ k below. one_by_one p k));
  }

  -- ---- columns apart

  same_front : (zs ys : List K) → length ys ≤ length zs → ((c : ℕ) → c < length ys → entry ring zs c ≡ entry ring ys c) → take (length ys) zs ≡ ys
  same_front zs [] room same = refl
  same_front [] (y ∷ ys) room same = absurd (omega arith)
  same_front (z ∷ zs) (y ∷ ys) room same = ap (λ t. t ∷ take (length ys) zs) (same 0 (omega arith)) ∙ ap (λ ts. y ∷ ts) (same_front zs ys (omega arith) (λ c below. same (suc c) (omega arith)))

  width_back : (a w : ℕ) → (a + w) - a ≡ w
  width_back a w = omega arith

  module _ (root : ℕ → K) (coset : TwoAdicCoset K) (columns : List (List K)) (rows values : List K) (room : All (HasDegreeBelow (coset_size coset)) columns)
      (each : (t c : ℕ) → t < coset_size coset → c < length columns → entry ring rows (t * length columns + c) ≡ entry ring (get_or columns c []) t)
      (h : AreRowsOn ring root coset (length columns) rows values) where
    turned : (t w c : ℕ) → c + t * w ≡ t * w + c
    turned t w c = omega arith

    value_there : (r c : ℕ) → r < coset_size coset → c < length columns → entry ring values (r * length columns + c) ≡ value ring (get_or columns c []) (coset_point ring root coset r)
    value_there r c a b =
        get_or_from_slice_get values (r * length columns + c) (value ring (column_of ring (length columns) (coset_size coset) rows c) (coset_point ring root coset r)) ring.zero (h.value_at r c a b)
        ∙ value_strided (get_or columns c []) (entry ring rows) c (length columns) (coset_size coset) (coset_point ring root coset r) (room c [] b)
        (λ t below. ap (entry ring rows) (turned t (length columns) c) ∙ each t c below b)

    row_there : (r : ℕ) → r < coset_size coset → matrix_row values (length columns) r ≡ row_at ring (λ c. c) columns (coset_point ring root coset r)
    row_there r a =
        let x = coset_point ring root coset r in
        let w = length columns in
        let row = map (λ p. value ring p x) columns in
        let long : length row ≡ w = length-map columns (λ p. value ring p x) in
        let fits : r * w + w ≤ coset_size coset * w = row_fits r w (coset_size coset) w a (omega arith) in
        let inside : length row ≤ length (drop (r * w) values) = omega (arith, long, fits, length-drop (r * w) values, h.number, mul_comm w (coset_size coset)) in
        ap (λ n. take n (drop (r * w) values)) (width_back (r * w) w ∙ sym long)
        ∙ same_front (drop (r * w) values) row inside
        (λ c below. let b : c < w = omega (arith, long, below) in
        get_or-drop (r * w) values c ring.zero ∙ value_there r c a b ∙ sym (get_or-map (λ p. value ring p x) columns c [] ring.zero b))

    pub has_rows : HasRows ring root coset columns values (length columns)
    has_rows = record {
      takes = record { count = refl; rows = row_there };
      number = h.number ∙ mul_comm (length columns) (coset_size coset);
    }

  one_wider : (w n : ℕ) → w * n + w ≡ w * (n + 1)
  one_wider w n = sym (mul-suc w n) ∙ ap (λ k. w * k) (sym (add-one n))

  -- what was put there of each column
  row_entry : {C : Type 0} (list_of : C → List K) (columns : List C) (n c : ℕ) → c < length columns → get_or (map (λ column. entry ring (list_of column) n) columns) c ring.zero ≡ entry ring (get_or (map list_of columns) c []) n
  row_entry list_of [] n c b = absurd (omega arith)
  row_entry list_of (x ∷ xs) n zero b = refl
  row_entry list_of (x ∷ xs) n (suc c) b = row_entry list_of xs n c (omega arith)

  -- One more row of coefficients.
  pub one_more_place : {C : Type 0} (list_of : C → List K) (columns : List C) (n : ℕ) (before after : List K) → after ≡ before ++ map (λ column. entry ring (list_of column) n) columns
      → length before ≡ length columns * n
      → ((t c : ℕ) → t < n → c < length columns → entry ring before (t * length columns + c) ≡ entry ring (get_or (map list_of columns) c []) t)
      → (t c : ℕ) → t < n + 1 → c < length columns → entry ring after (t * length columns + c) ≡ entry ring (get_or (map list_of columns) c []) t
  one_more_place list_of columns n before after grown number so_far t c a b =
      let w = length columns in
      let row = map (λ column. entry ring (list_of column) n) columns in
      elim (cases_lt t n) [
        | inl earlier ↦
            let inside : t * w + c < length before = omega (arith, mul-add-lt t w c n earlier b, number) in
            ap (λ l. entry ring l (t * w + c)) grown ∙ get_or_append_left before row ring.zero (t * w + c) inside ∙ so_far t c earlier b
        | inr later ↦
            let here : t ≡ n = omega arith in
            let turned_ : t * w ≡ w * n = mul_comm t w ∙ ap (λ k. w * k) here in
            let beyond : w * n ≤ t * w + c = omega (arith, turned_) in
            let place : (t * w + c) - w * n ≡ c = omega (arith, turned_) in
            ap (λ l. entry ring l (t * w + c)) grown ∙ get_or-append_right before row (w * n) (t * w + c) ring.zero number beyond
            ∙ ap (λ k. get_or row k ring.zero) place ∙ row_entry list_of columns n c b ∙ ap (entry ring (get_or (map list_of columns) c [])) (sym here)
      ]

  pub one_more_number : {C : Type 0} (list_of : C → List K) (columns : List C) (n : ℕ) (before after : List K) → after ≡ before ++ map (λ column. entry ring (list_of column) n) columns
      → length before ≡ length columns * n → length after ≡ length columns * (n + 1)
  one_more_number list_of columns n before after grown number =
      ap length grown ∙ length-append before (map (λ column. entry ring (list_of column) n) columns) ∙ ap (λ k. k + length (map (λ column. entry ring (list_of column) n) columns)) number
      ∙ ap (λ k. length columns * n + k) (length-map columns (λ column. entry ring (list_of column) n)) ∙ one_wider (length columns) n

  -- the same with the columns' number under another name
  pub has_rows_wide : (root : ℕ → K) (coset : TwoAdicCoset K) (columns : List (List K)) (rows values : List K) (w : ℕ) → length columns ≡ w → All (HasDegreeBelow (coset_size coset)) columns
      → ((t c : ℕ) → t < coset_size coset → c < w → entry ring rows (t * w + c) ≡ entry ring (get_or columns c []) t) → AreRowsOn ring root coset w rows values → HasRows ring root coset columns values w
  has_rows_wide root coset columns rows values w e room =
      subst (λ n. ((t c : ℕ) → t < coset_size coset → c < n → entry ring rows (t * n + c) ≡ entry ring (get_or columns c []) t) → AreRowsOn ring root coset n rows values → HasRows ring root coset columns values n) e
      (λ each h. has_rows root coset columns rows values room each h)
