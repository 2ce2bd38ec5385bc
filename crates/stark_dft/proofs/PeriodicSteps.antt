-- Values of columns on cosets of powers, and rows of values that begin again.
use Rattle.std.proofs.Common.{◌≡◌, ◌∙◌, ◌⊎◌, ℕ, ◌+◌, ◌-◌, ◌*◌, ◌/◌, ◌%◌, ◌^◌, ◌<◌, ◌≤◌, List, [], ◌∷◌, ◌++◌, length, map, get_or, Some, option_map, drop, append_assoc, inl, inr, max, sym, ap, arith, refl, subst}
use Rattle.std.specs.Int.{IsPowerOfTwo}
use Rattle.std.specs.List.{slice_get}
use Rattle.std.proofs.Math.Nat.{le-max_left, le-max_right, max-eq_left, max-eq_right, mod-lt, mod-mod_of_dvd, mul_comm, mul-div_cancel_left}
use Rattle.std.proofs.lemmas.List.{length-append}
use Rattle.std.proofs.lemmas.Nat.{mul-add-lt, pow-add, pow_pos}
use Rattle.std.proofs.lemmas.Nat.Gcd.{dvd_of_mod-eq-zero}
use Rattle.std.proofs.lemmas.Option.{get_or_from_slice_get, same_Some, slice_get-get_or, slice_get-map, slice_get_read, slice_get_within}
use Rattle.stark_support.proofs.Places.{from_place}
use Rattle.stark_support.specs.Coset.{AreValuesOn, TwoAdicCoset, coset_point, coset_size}
use Rattle.stark_support.specs.CosetFacts.{root_has_order, root_powers}
use Rattle.stark_support.specs.Folding.{AreValuesAtPowers}
use Rattle.stark_support.specs.FoldingFacts.{same_as_through}
use Rattle.stark_support.specs.Interpolation.{interpolation}
use Rattle.stark_support.specs.ListFacts.{last_or_below, one_more_number, slice_get-append-add, slice_get-append_left}
use Rattle.stark_support.specs.LogarithmFacts.{at_most_or_above}
use Rattle.stark_support.specs.Periodic.{periodic_value}
use Rattle.stark_support.specs.PeriodicTable.{HasPeriodicValues}
use Rattle.stark_support.specs.PeriodicValueFacts.{divides, power_round, powers_swapped}
use Rattle.stark_support.specs.Points.{powers_from}
use Rattle.stark_support.specs.Polynomial.{value}
use Rattle.stark_support.specs.PowerFacts.{power-mul, power-one, power-power, squarings_is_power}
use Rattle.stark_support.specs.Powers.{power, squarings}
use Rattle.stark_support.specs.Ring.{RingOps, FieldLaws}
use Rattle.stark_support.specs.RingFacts.{one_mul}
use Rattle.stark_support.specs.TwoAdic.{HasOrder, TwoAdicLaws}
use Rattle.stark_dft.specs.Columns.{ArePicked}
use Rattle.stark_dft.specs.Passes.{entry}
use Rattle.stark_dft.specs.Repeated.{AreExtended, AreRowsOf, row_round}
use Rattle.stark_dft.specs.SplitFacts.{nothing_there, place_of, seen}

-- ---- powers of two

pub either_max : (a b m : ℕ) → m ≡ max a b → (a ≤ m) × (b ≤ m) × ((m ≡ a) ⊎ (m ≡ b))
either_max a b m is =
    let left = le-max_left a b in
    let right = le-max_right a b in (
      omega (arith, left, is),
      omega (arith, right, is),
      elim (at_most_or_above a b) [
        | inl h ↦ inr (is ∙ max-eq_right h)
        | inr h ↦ let less : b ≤ a = omega arith in inl (is ∙ max-eq_left less)
      ],
    )

pub at_most_either : (a b m n : ℕ) → a ≤ n → b ≤ n → (m ≡ a) ⊎ (m ≡ b) → m ≤ n
at_most_either a b m n h k same = elim same [ inl e ↦ omega arith | inr e ↦ omega arith ]

pub through : {a b c : ℕ} → a ≤ b → b ≤ c → a ≤ c
through h k = omega arith

quotient_of_powers : (k n : ℕ) → k ≤ n → 2 ^ n / 2 ^ k ≡ 2 ^ (n - k)
quotient_of_powers k n h =
    let whole : n ≡ k + (n - k) = omega arith in
    ap (λ m. m / 2 ^ k) (ap (λ e. 2 ^ e) whole ∙ pow-add 2 k (n - k)) ∙ mul-div_cancel_left (2 ^ (n - k)) (pow_pos k)

multiple_mod : (a b : ℕ) → (b * a) % b ≡ 0
multiple_mod a b = grind arith

-- counted round a power of two and then round a smaller one
round_again : (r p q : ℕ) → IsPowerOfTwo p → IsPowerOfTwo q → p ≤ q → r % q % p ≡ r % p
round_again r p q small large within =
    mod-mod_of_dvd p r (dvd_of_mod-eq-zero p (ap (λ t. t % p) (sym (divides p q small large within).1 ∙ mul_comm (q / p) p) ∙ multiple_mod (q / p) p))

pub place_within : (l w i : ℕ) → l ≤ w → i < 2 ^ l → i * 2 ^ (w - l) < 2 ^ w
place_within l w i h below =
    let whole : w ≡ (w - l) + l = omega arith in
    let product : 2 ^ w ≡ 2 ^ (w - l) * 2 ^ l = ap (λ e. 2 ^ e) whole ∙ pow-add 2 (w - l) l in
    let fits = mul-add-lt i (2 ^ (w - l)) 0 (2 ^ l) below (pow_pos (w - l)) in
    subst (λ n. i * 2 ^ (w - l) < n) (sym product) (omega (arith, fits))

module _ {K : Type 0} {ring : RingOps K} {inverse : K → K} (laws : FieldLaws ring inverse) (adicity : ℕ) (root : ℕ → K) (generator : K) (two_adic : TwoAdicLaws ring adicity root generator) where
  -- ---- every so manieth point of a coset

  sparse_point : (s : K) (l w i : ℕ) → l ≤ w → w ≤ adicity
      → coset_point ring root (record { shift = s; log_size = w }) (i * 2 ^ (w - l)) ≡ coset_point ring root (record { shift = s; log_size = l }) i
  sparse_point s l w i h within =
      let d = w - l in
      let whole : w ≡ d + l = omega arith in
      ap (ring.mul s) (ap (power ring (root w)) (mul_comm i (2 ^ d)) ∙ sym (power-power laws.of_ring (root w) (2 ^ d) i)
      ∙ ap (λ t. power ring t i) (ap (λ n. power ring (root n) (2 ^ d)) whole ∙ root_powers laws adicity root generator two_adic d l (omega arith)))

  pub picked_values : (s : K) (l w step count : ℕ) (p values rows : List K) → l ≤ w → w ≤ adicity → step ≡ 2 ^ (w - l) → count ≡ 2 ^ l
      → AreValuesOn ring root (record { shift = s; log_size = w }) (2 ^ w) (value ring p) values → ArePicked values 0 step 1 (count * 1) rows
      → AreValuesOn ring root (record { shift = s; log_size = l }) (2 ^ l) (value ring p) rows
  picked_values s l w step count p values rows h within step_is count_is on picked = record {
    number = picked.number ∙ omega (arith, count_is);
    at_row = λ i below.
        let place : i ≡ i * 1 + 0 = omega arith in
        let there : 0 + 0 + i * step ≡ i * 2 ^ (w - l) = (let plain : 0 + 0 + i * step ≡ i * step = omega arith in plain ∙ ap (λ n. i * n) step_is) in
        ap (slice_get rows) place ∙ picked.each i 0 (omega arith) (omega (arith, below, count_is)) ∙ ap (slice_get values) there
        ∙ on.at_row (i * 2 ^ (w - l)) (place_within l w i h below) ∙ ap (λ y. Some (value ring p y)) (sparse_point s l w i h within);
  }

  -- ---- the powers of the points of a coset

  root_of_fewer : (e m : ℕ) → m ≤ adicity → power ring (root m) (2 ^ e) ≡ root (m - e)
  root_of_fewer e m within = elim (at_most_or_above e m) [
    | inl h ↦
        let whole : m ≡ e + (m - e) = omega arith in
        ap (λ n. power ring (root n) (2 ^ e)) whole ∙ root_powers laws adicity root generator two_adic e (m - e) (omega arith)
    | inr h ↦
        let whole : e ≡ m + (e - m) = omega arith in
        let none : m - e ≡ 0 = omega arith in
        ap (power ring (root m)) (ap (λ n. 2 ^ n) whole ∙ pow-add 2 m (e - m)) ∙ sym (power-power laws.of_ring (root m) (2 ^ m) (2 ^ (e - m)))
        ∙ ap (λ t. power ring t (2 ^ (e - m))) (root_has_order laws adicity root generator two_adic m within).reaches ∙ power-one laws.of_ring (2 ^ (e - m))
        ∙ sym two_adic.root_zero ∙ ap root (sym none)
  ]

  power_of_point : (s : K) (e m r : ℕ) → m ≤ adicity → power ring (coset_point ring root (record { shift = s; log_size = m }) r) (2 ^ e)
      ≡ coset_point ring root (record { shift = squarings ring s e; log_size = m - e }) (r % 2 ^ (m - e))
  power_of_point s e m r within =
      let q = m - e in
      power-mul laws.of_ring s (power ring (root m) r) (2 ^ e)
      ∙ ap (λ t. ring.mul t (power ring (power ring (root m) r) (2 ^ e))) (sym (squarings_is_power laws.of_ring s e))
      ∙ ap (ring.mul (squarings ring s e)) (powers_swapped laws.of_ring (root m) r (2 ^ e) ∙ ap (λ t. power ring t r) (root_of_fewer e m within)
      ∙ power_round laws.of_ring (root q) (2 ^ q) r (root_has_order laws adicity root generator two_adic q (omega arith)).reaches)

  unshifted : (k n : ℕ) (p values : List K) → length values ≡ n → AreValuesOn ring root (record { shift = ring.one; log_size = k }) n (value ring p) values
      → AreValuesAtPowers ring (root k) p (length values) values
  unshifted k n p values size on = record {
    number = refl;
    at_power = λ i below. on.at_row i (subst (λ m. i < m) size below) ∙ ap (λ y. Some (value ring p y)) (one_mul laws.of_ring (power ring (root k) i));
  }

  -- What a polynomial that takes a column has on the coset of the powers are the column's values.
  pub extended_value : (n k m : ℕ) (s : K) (column p values : List K) (r : ℕ) → k ≤ n → n ≤ adicity → m ≤ adicity → length column ≡ 2 ^ k → length p ≡ 2 ^ k
      → AreValuesOn ring root (record { shift = ring.one; log_size = k }) (2 ^ k) (value ring p) column
      → AreValuesOn ring root (record { shift = squarings ring s (n - k); log_size = m - (n - k) }) (2 ^ (m - (n - k))) (value ring p) values
      → slice_get values (r % length values) ≡ Some (periodic_value ring inverse (root n) (2 ^ n) ring (λ x. x) column (coset_point ring root (record { shift = s; log_size = m }) r))
  extended_value n k m s column p values r smaller within inside size degree takes on =
      let e = n - k in
      let q = m - e in
      let x = coset_point ring root (record { shift = s; log_size = m }) r in
      let ratio : 2 ^ e ≡ 2 ^ n / length column = sym (ap (λ l. 2 ^ n / l) size ∙ quotient_of_powers k n smaller) in
      let back : n - e ≡ k = omega arith in
      let group : root k ≡ power ring (root n) (2 ^ n / length column) = sym (ap root back) ∙ sym (root_of_fewer e n within) ∙ ap (power ring (root n)) ratio in
      let order : HasOrder ring (root k) (length column) = subst (HasOrder ring (root k)) (sym size) (root_has_order laws adicity root generator two_adic k (omega arith)) in
      let same : value ring p (power ring x (2 ^ e)) ≡ value ring (interpolation ring inverse (powers_from ring (root k) 0 (length column)) column) (power ring x (2 ^ e)) =
      same_as_through laws (root k) column order p (omega (arith, degree, size)) (unshifted k (2 ^ k) p column size takes) (power ring x (2 ^ e)) in
      ap (λ l. slice_get values (r % l)) on.number ∙ on.at_row (r % 2 ^ q) (mod-lt r (pow_pos q))
      ∙ ap (λ y. Some (value ring p y)) (sym (power_of_point s e m r inside)) ∙ ap Some same
      ∙ ap (λ h. Some (value ring (interpolation ring inverse (powers_from ring h 0 (length column)) column) (power ring x (2 ^ e)))) group
      ∙ ap (λ d. Some (value ring (interpolation ring inverse (powers_from ring (power ring (root n) (2 ^ n / length column)) 0 (length column)) column) (power ring x d))) ratio

-- ---- lists of values, and rows of them

module _ {C : Type 0} {K : Type 0} (ring : RingOps K) (root : ℕ → K) (coset : TwoAdicCoset K) (value_of : C → K → K) (columns : List C) where
  pub none_extended : (lists : List (List K)) → lists ≡ [] → AreExtended ring root coset value_of columns 0 lists
  none_extended lists e = record {
    number = ap length e;
    power = λ c list h. absurd (nothing_there lists c list e h);
    value_at = λ c r column list there h. absurd (nothing_there lists c list e h);
  }

  pub one_more_extended : (n : ℕ) (before after : List (List K)) (column : C) (list : List K) → AreExtended ring root coset value_of columns n before → slice_get columns n ≡ Some column
      → IsPowerOfTwo (length list) → ((r : ℕ) → slice_get list (r % length list) ≡ Some (value_of column (coset_point ring root coset r))) → after ≡ before ++ list ∷ []
      → AreExtended ring root coset value_of columns (n + 1) after
  one_more_extended n before after column list so_far here power values grown = record {
    number = one_more_number before after list n so_far.number grown;
    power = λ c y h. elim (seen before after list y n c so_far.number grown h) [
      | inl w ↦ subst (λ t. IsPowerOfTwo (length t)) (sym w.1) power
      | inr w ↦ so_far.power c y w
    ];
    value_at = λ c r x y there h. elim (seen before after list y n c so_far.number grown h) [
      | inl w ↦
          let same : column ≡ x = same_Some column x (sym here ∙ ap (slice_get columns) (sym w.0) ∙ there) in
          ap (λ t. slice_get t (r % length t)) w.1 ∙ values r ∙ ap (λ t. Some (value_of t (coset_point ring root coset r))) same
      | inr w ↦ so_far.value_at c r x y there w
    ];
  }

-- the greatest length so far
pub one_more_length : {A : Type 0} (lists : List (List A)) (i best next : ℕ) (list : List A) → slice_get lists i ≡ Some list → IsPowerOfTwo (length list) → next ≡ max best (length list) → IsPowerOfTwo best
    → ((c : ℕ) (l : List A) → c < i → slice_get lists c ≡ Some l → length l ≤ best)
    → IsPowerOfTwo next × ((c : ℕ) (l : List A) → c < i + 1 → slice_get lists c ≡ Some l → length l ≤ next)
one_more_length lists i best next list here power is best_power so_far =
    let bounds = either_max best (length list) next is in (
      elim bounds.2 [
        | inl same ↦ subst IsPowerOfTwo (sym same) best_power
        | inr same ↦ subst IsPowerOfTwo (sym same) power
      ],
      λ c l below there. elim (last_or_below c i below) [
        | inl last ↦
            let same : list ≡ l = same_Some list l (sym here ∙ ap (slice_get lists) (sym last) ∙ there) in
            subst (λ t. length t ≤ next) same bounds.1
        | inr earlier ↦ let shorter = so_far c l earlier there in omega (arith, shorter, bounds.0)
      ],
    )

none_of : (w : ℕ) → 0 ≡ 0 * w
none_of w = omega arith

one_more : (n w : ℕ) → n * w + w ≡ (n + 1) * w
one_more n w = omega arith

module _ {K : Type 0} (width : ℕ) (row : ℕ → List K) (wide : (r : ℕ) → length (row r) ≡ width) where
  pub no_rows : (values : List K) → values ≡ [] → AreRowsOf width row 0 values
  no_rows values e = record { number = ap length e ∙ none_of width; value_at = λ r c x below there. absurd (omega arith) }

  pub one_more_row : (n : ℕ) (before after : List K) → AreRowsOf width row n before → after ≡ before ++ row n → AreRowsOf width row (n + 1) after
  one_more_row n before after so_far pushed = record {
    number = ap length pushed ∙ length-append before (row n) ∙ (let as_wide = wide n in let so = so_far.number in let e = one_more n width in omega (arith, as_wide, so, e));
    value_at = λ r c x below there.
        let inside : c < width = omega (arith, slice_get_within (row r) c x there, wide r) in
        ap (λ t. slice_get t (r * width + c)) pushed ∙ elim (last_or_below r n below) [
          | inl last ↦ ap (λ k. slice_get (before ++ row n) (k + c)) (ap (λ k. k * width) last ∙ sym so_far.number)
              ∙ slice_get-append-add before (row n) c ∙ ap (λ k. slice_get (row k) c) (sym last) ∙ there
          | inr earlier ↦ slice_get-append_left before (row n) (r * width + c) (omega (arith, place_of n width r c earlier inside, so_far.number)) ∙ so_far.value_at r c x earlier there
        ];
  }

-- Rows of the columns' lists, as many as the longest list has values, are a table of the columns' values.
pub has_periodic_values : {K : Type 0} (ring : RingOps K) (inverse : K → K) (root : ℕ → K) (trace domain : TwoAdicCoset K) (columns lists : List (List K)) (values : List K) (width period : ℕ)
    → AreExtended ring root domain (periodic_value ring inverse (root trace.log_size) (coset_size trace) ring (λ x. x)) columns (length columns) lists
    → IsPowerOfTwo period → ((c : ℕ) (list : List K) → slice_get lists c ≡ Some list → length list ≤ period) → width ≡ length lists
    → AreRowsOf width (row_round ring lists) period values → HasPeriodicValues ring inverse root trace domain columns values width period
has_periodic_values ring inverse root trace domain columns lists values width period extended power none_longer wide rows = record {
  count = wide ∙ extended.number;
  value = λ r c column below there.
      let place = r % period in
      let inside : c < length lists = omega (arith, slice_get_within columns c column there, extended.number) in
      let list = get_or lists c [] in
      let here : slice_get lists c ≡ Some list = slice_get-get_or lists c [] inside in
      let some : 0 < period = (let (k, is) = power in subst (λ n. 0 < n) (sym is) (pow_pos k)) in
      let listed : slice_get (row_round ring lists place) c ≡ Some (entry ring list (place % length list)) =
      slice_get-map (λ t. entry ring t (place % length t)) lists c ∙ ap (option_map (λ t. entry ring t (place % length t))) here in
      rows.value_at place c (entry ring list (place % length list)) (mod-lt r some) listed
      ∙ ap (λ n. Some (entry ring list n)) (round_again r (length list) period (extended.power c list here) power (none_longer c list here))
      ∙ ap Some (get_or_from_slice_get list (r % length list) _ ring.zero (extended.value_at c r column list there here));
}

-- what was made of the element at a place
pub mapped_here : {A B : Type 0} (f : A → B) (xs : List A) (i : ℕ) (x : A) → i < length xs → x ≡ get_or xs i x → slice_get (map f xs) i ≡ Some (f x)
mapped_here f xs i x below is = slice_get-map f xs i ∙ ap (option_map f) (slice_get_read xs (length xs) i x refl below is)

pub one_more_mapped : {A B : Type 0} (f : A → B) (xs : List A) (i : ℕ) (x : A) (y : B) (before after whole : List B) → i < length xs → x ≡ get_or xs i x → y ≡ f x → after ≡ before ++ y ∷ []
    → before ++ map f (drop i xs) ≡ whole → after ++ map f (drop (i + 1) xs) ≡ whole
one_more_mapped f xs i x y before after whole below here is pushed so_far =
    ap (λ t. t ++ map f (drop (i + 1) xs)) (pushed ∙ ap (λ t. before ++ t ∷ []) is) ∙ append_assoc before (f x ∷ []) (map f (drop (i + 1) xs))
    ∙ ap (λ t. before ++ map f t) (sym (from_place xs i (i + 1) x refl below here)) ∙ so_far

pub read_round : {K : Type 0} (ring : RingOps K) (list : List K) (r n : ℕ) (x : K) → n ≡ length list → 0 < n → x ≡ get_or list (r % n) x → x ≡ entry ring list (r % length list)
read_round ring list r n x long some is =
    let inside : r % n < n = mod-lt r some in
    sym (get_or_from_slice_get list (r % n) x ring.zero (slice_get_read list n (r % n) x long inside is)) ∙ ap (λ m. entry ring list (r % m)) long
