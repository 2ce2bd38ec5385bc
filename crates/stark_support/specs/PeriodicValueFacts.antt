-- The values of periodic columns: the group of a column's period, and the rows.
use Rattle.std.specs.Prelude.{◌≡◌, ℕ, zero, suc, ◌+◌, ◌-◌, ◌*◌, ◌/◌, ◌%◌, ◌^◌, ◌<◌, ◌≤◌, List, [], ◌∷◌, map, length, All, Some, refl}
use Rattle.std.specs.Int.{IsPowerOfTwo}
use Rattle.std.specs.List.{slice_get}
use Rattle.std.proofs.Common.{sym, ap, ◌∙◌, arith, subst, get_or, drop}
use Rattle.std.proofs.Math.Nat.{mul-div_cancel_left, mod-add-div, mod-lt}
use Rattle.std.proofs.lemmas.Nat.{pow-add}
use Rattle.std.proofs.lemmas.Option.{same_Some, slice_get_within, get_or_from_slice_get}
use Rattle.stark_support.specs.Ring.{RingOps, RingLaws, FieldLaws}
use Rattle.stark_support.specs.Powers.{power}
use Rattle.stark_support.specs.PowerFacts.{power-add, power-one, power-power}
use Rattle.stark_support.specs.TwoAdic.{HasOrder}
use Rattle.stark_support.specs.LogarithmFacts.{exponent_at_most, two_power_at_most}
use Rattle.stark_support.specs.Points.{powers_from}
use Rattle.stark_support.specs.PointFacts.{powers_length, powers_without_repeats}
use Rattle.stark_support.specs.Polynomial.{value, IsWithoutRepeats}
use Rattle.stark_support.specs.InterpolationFacts.{interpolation_takes}
use Rattle.stark_support.specs.KeepsRing.{KeepsRing, kept_power, kept_value_over}
use Rattle.stark_support.specs.Periodic.{ColumnFits, column_polynomial, periodic_value}
use Rattle.stark_support.specs.PeriodicFacts.{power_of_two}

-- Of two powers of two the smaller divides the larger.
pub divides : (p n : ℕ) → IsPowerOfTwo p → IsPowerOfTwo n → p ≤ n → (0 < n / p) × ((n / p) * p ≡ n)
divides p n (k, is_p) (m, is_n) within =
    let smaller : k ≤ m = exponent_at_most k m (omega arith) in
    let parts : m ≡ k + (m - k) = omega arith in
    let product : n ≡ p * 2 ^ (m - k) = is_n ∙ ap (λ e. 2 ^ e) parts ∙ pow-add 2 k (m - k) ∙ ap (λ t. t * 2 ^ (m - k)) (sym is_p) in
    let positive : 0 < p = omega (arith, two_power_at_most 0 k (omega arith)) in
    let ratio : n / p ≡ 2 ^ (m - k) = ap (λ t. t / p) product ∙ mul-div_cancel_left (2 ^ (m - k)) positive in
    let one : 0 < 2 ^ (m - k) = omega (arith, two_power_at_most 0 (m - k) (omega arith)) in
    (omega arith, ap (λ t. t * p) ratio ∙ (let turned : 2 ^ (m - k) * p ≡ p * 2 ^ (m - k) = omega arith in turned) ∙ sym product)

times_positive : (d k : ℕ) → 0 < d → 0 < k → 0 < d * k
times_positive zero k h e = absurd (omega arith)
times_positive (suc d) zero h e = absurd (omega arith)
times_positive (suc d) (suc k) h e = omega arith

times_less : (d k p : ℕ) → 0 < d → k < p → d * k < d * p
times_less zero k p h less = absurd (omega arith)
times_less (suc zero) k p h less = omega arith
times_less (suc (suc d)) k p h less = let before = times_less (suc d) k p (omega arith) less in omega arith

module _ {K : Type 0} {ring : RingOps K} (laws : RingLaws ring) (generator : K) (n : ℕ) (order : HasOrder ring generator n) (p d : ℕ) (positive : 0 < d) (whole : d * p ≡ n) where
  -- The d-th power of an element of order d * p has order p.
  pub order_of_period : HasOrder ring (power ring generator d) p
  order_of_period = record {
    reaches = power-power laws generator d p ∙ ap (power ring generator) whole ∙ order.reaches;
    first = λ k above below e. order.first (d * k) (times_positive d k positive above) (subst (λ t. d * k < t) whole (times_less d k p positive below))
        (sym (power-power laws generator d k) ∙ e);
  }

  pub period_without_repeats : IsWithoutRepeats (powers_from ring (power ring generator d) 0 p)
  period_without_repeats = powers_without_repeats laws (power ring generator d) p order_of_period

pub powers_at : {K : Type 0} (ring : RingOps K) (g : K) (m n i : ℕ) (d : K) → i < n → get_or (powers_from ring g m n) i d ≡ power ring g (m + i)
powers_at ring g m zero i d h = absurd (omega arith)
powers_at ring g m (suc n) zero d h = let same : m ≡ m + 0 = omega arith in ap (power ring g) same
powers_at ring g m (suc n) (suc i) d h = powers_at ring g (suc m) n i d (omega arith) ∙ (let moved : suc m + i ≡ m + suc i = omega arith in ap (power ring g) moved)

mapped_at : {A B : Type 0} (f : A → B) (xs : List A) (ys : List B) (i : ℕ) (a : A) (b : B) → map f xs ≡ ys → i < length xs → f (get_or xs i a) ≡ get_or ys i b
mapped_at f [] ys i a b e h = absurd (omega arith)
mapped_at f (x ∷ xs) [] i a b e h = absurd (cc)
mapped_at f (x ∷ xs) (y ∷ ys) zero a b e h = ap (λ t. get_or t 0 b) e
mapped_at f (x ∷ xs) (y ∷ ys) (suc i) a b e h = mapped_at f xs ys i a b (ap (drop 1) e) (omega arith)

mapped_get : {A B : Type 0} (f : A → B) (xs : List A) (i : ℕ) (a : A) → slice_get xs i ≡ Some a → slice_get (map f xs) i ≡ Some (f a)
mapped_get f [] i a e = absurd (cc)
mapped_get f (x ∷ xs) zero a e = ap (λ t. Some (f t)) (same_Some x a e)
mapped_get f (x ∷ xs) (suc i) a e = mapped_get f xs i a e

module _ {K : Type 0} {ring : RingOps K} (laws : RingLaws ring) where
  pub power_round : (h : K) (p i : ℕ) → power ring h p ≡ ring.one → power ring h i ≡ power ring h (i % p)
  power_round h p i round =
      ap (power ring h) (sym (mod-add-div i p)) ∙ power-add laws h (i % p) (p * (i / p))
      ∙ ap (ring.mul (power ring h (i % p))) (sym (power-power laws h p (i / p)) ∙ ap (λ t. power ring t (i / p)) round ∙ power-one laws (i / p)) ∙ laws.mul_one _

  pub powers_swapped : (g : K) (i d : ℕ) → power ring (power ring g i) d ≡ power ring (power ring g d) i
  powers_swapped g i d = power-power laws g i d ∙ (let turned : i * d ≡ d * i = omega arith in ap (power ring g) turned) ∙ sym (power-power laws g d i)

module _ {K : Type 0} {E : Type 0} {ring : RingOps K} {inverse : K → K} (laws : FieldLaws ring inverse) {extension : RingOps E} {embed : K → E} (keeps : KeepsRing ring extension embed)
    (generator : K) (n : ℕ) (order : HasOrder ring generator n) (column : List K) (power_of_two : IsPowerOfTwo (length column)) (height : IsPowerOfTwo n) (within : length column ≤ n) where
  -- In row i of the trace a column has its entry i, counted round its end.
  pub value_in_row : (i : ℕ) (x : E) → x ≡ embed (power ring generator i)
      → periodic_value ring inverse generator n extension embed column x ≡ embed (get_or column (i % length column) ring.zero)
  value_in_row i x at =
      let p = length column in
      let ratio = divides p n power_of_two height within in
      let d = n / p in
      let h = power ring generator d in
      let rest = i % p in
      let positive : 0 < p = omega (arith, power_of_two.1, two_power_at_most 0 power_of_two.0 (omega arith)) in
      let below : rest < p = mod-lt i positive in
      let polynomial = column_polynomial ring inverse generator n column in
      let period = order_of_period laws.of_ring generator n order p d ratio.0 ratio.1 in
      let takes = interpolation_takes laws (powers_from ring h 0 p) column (powers_length ring h 0 p) (period_without_repeats laws.of_ring generator n order p d ratio.0 ratio.1) in
      let entry : value ring polynomial (power ring h rest) ≡ get_or column rest ring.zero =
      ap (value ring polynomial) (sym (powers_at ring h 0 p rest ring.zero below ∙ (let same : 0 + rest ≡ rest = omega arith in ap (power ring h) same)))
      ∙ mapped_at (value ring polynomial) (powers_from ring h 0 p) column rest ring.zero ring.zero takes (omega (arith, powers_length ring h 0 p)) in
      let at_power : power extension x d ≡ embed (power ring h rest) =
      ap (λ y. power extension y d) at ∙ sym (kept_power keeps (power ring generator i) _ d refl)
      ∙ ap embed (powers_swapped laws.of_ring generator i d ∙ power_round laws.of_ring h p i period.reaches) in
      sym (kept_value_over keeps (λ c. c) embed (λ c. refl) polynomial (power ring h rest) (power extension x d) (sym at_power)) ∙ ap embed entry

module _ {K : Type 0} {E : Type 0} {C : Type 0} {ring : RingOps K} {inverse : K → K} (laws : FieldLaws ring inverse) {extension : RingOps E} {embed : K → E} (keeps : KeepsRing ring extension embed)
    (generator : K) (n : ℕ) (order : HasOrder ring generator n) (height : IsPowerOfTwo n) (entries : C → List K) (size : C → ℕ) (sized : (column : C) → size column ≡ length (entries column)) where
  pub values_in_row : (columns : List C) (values : List E) (x : E) (i : ℕ) → All (λ column. ColumnFits n (size column)) columns
      → values ≡ map (λ column. periodic_value ring inverse generator n extension embed (entries column) x) columns → x ≡ embed (power ring generator i)
      → (c : ℕ) (column : C) → slice_get columns c ≡ Some column → slice_get values c ≡ Some (embed (get_or (entries column) (i % length (entries column)) ring.zero))
  values_in_row columns values x i fit are at c column listed =
      let obtained = slice_get_within columns c column listed in
      let here : get_or columns c column ≡ column = get_or_from_slice_get columns c column column listed in
      let fits = fit c column obtained in
      let same : size (get_or columns c column) ≡ length (entries column) = ap size here ∙ sized column in
      let power = power_of_two (size (get_or columns c column)) fits.power in
      ap (λ t. slice_get t c) are ∙ mapped_get (λ column. periodic_value ring inverse generator n extension embed (entries column) x) columns c column listed
      ∙ ap Some (value_in_row laws keeps generator n order (entries column) (power.0, sym same ∙ power.1) height (omega (arith, same, fits.within)) i x at)
