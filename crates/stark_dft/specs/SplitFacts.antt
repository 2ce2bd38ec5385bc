-- Rows that are picked from a list, and columns that are split from rows.
use Rattle.std.specs.Prelude.{◌≡◌, ◌⊎◌, ℕ, zero, suc, ◌+◌, ◌*◌, ◌<◌, List, [], ◌∷◌, ◌++◌, length, Some, refl}
use Rattle.std.proofs.Common.{sym, ap, ◌∙◌, arith, subst, inl, inr, add-one}
use Rattle.std.specs.List.{slice_get}
use Rattle.std.proofs.Math.Nat.{mul_comm}
use Rattle.std.proofs.lemmas.Nat.{same_from_place, mul-add-lt}
use Rattle.std.proofs.lemmas.Bool.{cases_lt}
use Rattle.std.proofs.lemmas.Option.{slice_get_within, same_Some}
use Rattle.stark_support.specs.ListFacts.{no_such, one_more_number, slice_get-append_left, slice_get-last}
use Rattle.stark_support.specs.Ring.{RingOps, RingLaws}
use Rattle.stark_support.specs.Coset.{TwoAdicCoset, coset_point, coset_size}
use Rattle.stark_support.specs.Polynomial.{value}
use Rattle.stark_dft.specs.Passes.{entry}
use Rattle.stark_dft.specs.Strided.{strided, AreRowsOn}
use Rattle.stark_dft.specs.Columns.{ArePicked, AreSplit, AreColumns}
use Rattle.stark_dft.specs.ColumnFacts.{empty_step, place_here, place_later}

pub nothing_there : {A : Type 0} (columns : List A) (c : ℕ) (x : A) → columns ≡ [] → slice_get columns c ≡ Some x → ⊥
nothing_there columns c x e h = no_such c x (subst (λ t. slice_get t c ≡ Some x) e h)

-- What stands in a list with one more element: it, at the end, or an earlier one.
pub seen : {A : Type 0} (before after : List A) (x y : A) (n c : ℕ) → length before ≡ n → after ≡ before ++ x ∷ [] → slice_get after c ≡ Some y → ((c ≡ n) × (y ≡ x)) ⊎ (slice_get before c ≡ Some y)
seen before after x y n c number grown h =
    let there : slice_get (before ++ x ∷ []) c ≡ Some y = sym (ap (λ t. slice_get t c) grown) ∙ h in
    elim (cases_lt c n) [
      | inl less ↦ inr (sym (slice_get-append_left before (x ∷ []) c (omega (arith, number))) ∙ there)
      | inr more ↦
          let last : c ≡ n = omega (arith, more, slice_get_within after c y h, one_more_number before after x n number grown) in
          inl (last, same_Some y x (sym there ∙ ap (slice_get (before ++ x ∷ [])) (last ∙ sym number) ∙ slice_get-last before x))
    ]

module _ {K : Type 0} (values : List K) (first step width : ℕ) where
  pub none_picked : (rows : List K) → rows ≡ [] → ArePicked values first step width 0 rows
  none_picked rows e = record { number = ap length e; each = λ r c b below. absurd (omega arith) }

  pub same_picked : (n m : ℕ) (rows : List K) → n ≡ m → ArePicked values first step width n rows → ArePicked values first step width m rows
  same_picked n m rows e h = subst (λ k. ArePicked values first step width k rows) e h

  pub one_more_picked : (row column n : ℕ) (rows after : List K) (x : K) → column < width → n ≡ row * width + column → slice_get values (first + column + row * step) ≡ Some x → after ≡ rows ++ x ∷ []
      → ArePicked values first step width n rows → ArePicked values first step width (n + 1) after
  one_more_picked row column n rows after x inside place read grown before = record {
    number = one_more_number rows after x n before.number grown;
    each = λ r c b below. elim (cases_lt (r * width + c) n) [
      | inl earlier ↦
          ap (λ t. slice_get t (r * width + c)) grown ∙ slice_get-append_left rows (x ∷ []) (r * width + c) (omega (arith, earlier, before.number)) ∙ before.each r c b earlier
      | inr later ↦
          let here : r * width + c ≡ n = omega arith in
          let pair = same_from_place r c row column width b inside (here ∙ place) in
          ap (λ t. slice_get t (r * width + c)) grown ∙ ap (slice_get (rows ++ x ∷ [])) (here ∙ sym before.number) ∙ slice_get-last rows x
          ∙ sym read ∙ ap (λ k. slice_get values (first + k + row * step)) (sym pair.1) ∙ ap (λ k. slice_get values (first + c + k * step)) (sym pair.0)
    ];
  }

pub place_of : (height width r c : ℕ) → r < height → c < width → r * width + c < height * width
place_of height width r c a b = let fits = mul-add-lt r width c height a b in omega (arith, mul_comm width height)

module _ {K : Type 0} {ring : RingOps K} (laws : RingLaws ring) where
  pub value_with_zero : (p : List K) (x : K) → value ring (p ++ ring.zero ∷ []) x ≡ value ring p x
  value_with_zero [] x = empty_step laws x
  value_with_zero (c ∷ p) x = ap (λ w. ring.add c (ring.mul w x)) (value_with_zero p x)

  pub no_split : (rows : List K) (width height size : ℕ) (columns : List (List K)) → columns ≡ [] → AreSplit ring rows width height size 0 columns
  no_split rows width height size columns e = record {
    number = ap length e;
    column = λ c p h. absurd (nothing_there columns c p e h);
    same = λ c p h. absurd (nothing_there columns c p e h);
  }

  pub one_more_split : (rows : List K) (width height size n : ℕ) (columns after : List (List K)) (p : List K) → AreSplit ring rows width height size n columns → length p ≡ size
      → ((x : K) → value ring p x ≡ value ring (strided (entry ring rows) n width height) x) → after ≡ columns ++ p ∷ [] → AreSplit ring rows width height size (n + 1) after
  one_more_split rows width height size n columns after p before number same grown = record {
    number = one_more_number columns after p n before.number grown;
    column = λ c q h. elim (seen columns after p q n c before.number grown h) [
      | inl w ↦ ap length w.1 ∙ number
      | inr w ↦ before.column c q w
    ];
    same = λ c q h x. elim (seen columns after p q n c before.number grown h) [
      | inl w ↦ ap (λ t. value ring t x) w.1 ∙ same x ∙ ap (λ k. value ring (strided (entry ring rows) k width height) x) (sym w.0)
      | inr w ↦ before.same c q w x
    ];
  }

  pub strided_length : (f : ℕ → K) (q h n : ℕ) → length (strided f q h n) ≡ n
  strided_length f q h zero = refl
  strided_length f q h (suc n) = ap suc (strided_length f (q + h) h n)

  -- The columns of what was interpolated from the picked rows take the values that were picked.
  pub are_columns : (root : ℕ → K) (coset : TwoAdicCoset K) (values : List K) (first step width size : ℕ) (rows coefficients : List K) (columns : List (List K)) → ArePicked values first step width (coset_size coset * width) rows
      → AreRowsOn ring root coset width coefficients rows → AreSplit ring coefficients width (coset_size coset) size width columns → AreColumns ring root coset values first step width size columns
  are_columns root coset values first step width size rows coefficients columns picked on split = record {
    count = split.number;
    column = split.column;
    takes = λ c r p h below.
        let inside : c < width = omega (arith, slice_get_within columns c p h, split.number) in
        sym (picked.each r c inside (place_of (coset_size coset) width r c below inside)) ∙ on.value_at r c below inside ∙ ap Some (sym (split.same c p h (coset_point ring root coset r)));
    plain = λ c p h.
        let long = strided_length (entry ring coefficients) c width (coset_size coset) in
        record { coefficients = strided (entry ring coefficients) c width (coset_size coset); bounded = omega (arith, long); same = split.same c p h };
  }

-- A sequence that is listed one after the other.
strided_last : {A : Type 0} (f : ℕ → A) (q h n : ℕ) → strided f q h (suc n) ≡ strided f q h n ++ f (q + n * h) ∷ []
strided_last f q h zero = ap (λ k. f k ∷ []) (place_here q h)
strided_last f q h (suc n) = ap (λ t. f q ∷ t) (strided_last f (q + h) h n) ∙ ap (λ k. f q ∷ (strided f (q + h) h n ++ f k ∷ [])) (place_later q h n)

pub one_more_strided : {A : Type 0} (f : ℕ → A) (q h n : ℕ) (done after : List A) (x : A) → x ≡ f (q + n * h) → after ≡ done ++ x ∷ [] → done ≡ strided f q h n → after ≡ strided f q h (n + 1)
one_more_strided f q h n done after x is grown so_far =
    grown ∙ ap (λ t. t ++ x ∷ []) so_far ∙ ap (λ y. strided f q h n ++ y ∷ []) is ∙ sym (strided_last f q h n) ∙ ap (strided f q h) (sym (add-one n))
