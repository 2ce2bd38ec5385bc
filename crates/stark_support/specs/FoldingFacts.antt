-- The values at opposite points, folded, are values at the points' squares.
use Rattle.std.specs.Prelude.{◌≡◌, ◌≢◌, ℕ, zero, suc, ◌+◌, ◌-◌, ◌*◌, ◌/◌, ◌<◌, ◌≤◌, List, [], ◌∷◌, ◌++◌, length, map, Some, option_map, refl}
use Rattle.std.specs.List.{slice_get}
use Rattle.std.proofs.Common.{sym, ap, ◌∙◌, arith, subst, inl, inr}
use Rattle.std.proofs.lemmas.List.{length-map}
use Rattle.std.proofs.lemmas.Option.{same_Some, slice_get-get_or, slice_get-map}
use Rattle.stark_support.specs.Ring.{RingOps, RingLaws, FieldLaws, difference}
use Rattle.stark_support.specs.RingFacts.{unique_neg}
use Rattle.stark_support.specs.RingSolver.{solve, nothing, unit, opposite_of, ◌⊕◌, ◌⊖◌, ◌⊗◌, v0, v1, v2, v3, v4, v5}
use Rattle.stark_support.specs.FieldFacts.{square_one}
use Rattle.stark_support.specs.Powers.{power}
use Rattle.stark_support.specs.PowerFacts.{power-add, power-mul, power-one, power-two}
use Rattle.stark_support.specs.TwoAdic.{HasOrder}
use Rattle.stark_support.specs.Polynomial.{value, value_over, HasDegreeBelow}
use Rattle.stark_support.specs.PolynomialFacts.{interpolation_unique, value_of_constant}
use Rattle.stark_support.specs.Points.{powers_from}
use Rattle.stark_support.specs.PointFacts.{all_powers, powers_length, powers_without_repeats}
use Rattle.stark_support.specs.Interpolation.{interpolation}
use Rattle.stark_support.specs.InterpolationFacts.{interpolation_length, interpolation_takes}
use Rattle.stark_support.specs.KeepsRing.{KeepsRing, kept_power, kept_value_over}
use Rattle.stark_support.specs.PeriodicValueFacts.{order_of_period, powers_at}
use Rattle.stark_support.specs.ListFacts.{one_more_number, one_more_listed}
use Rattle.stark_support.specs.Folding.{evens, odds, folded, AreFoldedSoFar, AreValuesAtPowers, IsValueThrough}

twice : (n : ℕ) → n + n ≡ 2 * n
twice n = omega arith

module _ {K : Type 0} {ring : RingOps K} (laws : RingLaws ring) where
  -- p(x) is E(x^2) + x O(x^2), where E and O have the even and the odd coefficients
  value_of_halves : (p : List K) (x : K) → value ring p x ≡ ring.add (value ring (evens p) (ring.mul x x)) (ring.mul x (value ring (odds p) (ring.mul x x)))
  unfolding evens odds
  value_of_halves [] x = solve laws (x ∷ []) nothing (nothing ⊕ v0 ⊗ nothing) refl
  value_of_halves (c ∷ []) x = solve laws (c ∷ x ∷ []) (v0 ⊕ nothing ⊗ v1) (v0 ⊕ nothing ⊗ (v1 ⊗ v1) ⊕ v1 ⊗ nothing) refl
  value_of_halves (c ∷ (d ∷ p)) x =
      ap (λ w. ring.add c (ring.mul (ring.add d (ring.mul w x)) x)) (value_of_halves p x) ∙
      solve laws (c ∷ d ∷ x ∷ value ring (evens p) (ring.mul x x) ∷ value ring (odds p) (ring.mul x x) ∷ [])
      (v0 ⊕ (v1 ⊕ (v3 ⊕ v2 ⊗ v4) ⊗ v2) ⊗ v2)
      (v0 ⊕ v3 ⊗ (v2 ⊗ v2) ⊕ v2 ⊗ (v1 ⊕ v4 ⊗ (v2 ⊗ v2)))
      refl

  value_of_folded : (beta : K) (p : List K) (y : K) → value ring (folded ring beta p) y ≡ ring.add (value ring (evens p) y) (ring.mul beta (value ring (odds p) y))
  unfolding evens odds folded
  value_of_folded beta [] y = solve laws (beta ∷ []) nothing (nothing ⊕ v0 ⊗ nothing) refl
  value_of_folded beta (c ∷ []) y = solve laws (beta ∷ c ∷ y ∷ []) (v1 ⊕ nothing ⊗ v2) (v1 ⊕ nothing ⊗ v2 ⊕ v0 ⊗ nothing) refl
  value_of_folded beta (c ∷ (d ∷ p)) y =
      ap (λ w. ring.add (ring.add c (ring.mul beta d)) (ring.mul w y)) (value_of_folded beta p y) ∙
      solve laws (beta ∷ c ∷ d ∷ y ∷ value ring (evens p) y ∷ value ring (odds p) y ∷ [])
      (v1 ⊕ v0 ⊗ v2 ⊕ (v4 ⊕ v0 ⊗ v5) ⊗ v3)
      (v1 ⊕ v4 ⊗ v3 ⊕ v0 ⊗ (v2 ⊕ v5 ⊗ v3))
      refl

  -- At the square of the point by which it is folded, a folded polynomial has the value that the polynomial has at the point.
  pub folded_at_square : (x : K) (p : List K) → value ring (folded ring x p) (ring.mul x x) ≡ value ring p x
  folded_at_square x p = value_of_folded x p (ring.mul x x) ∙ sym (value_of_halves p x)

  value_at_opposite : (p : List K) (x : K) → value ring p (ring.neg x) ≡ difference ring (value ring (evens p) (ring.mul x x)) (ring.mul x (value ring (odds p) (ring.mul x x)))
  value_at_opposite p x =
      value_of_halves p (ring.neg x) ∙
      ap (λ y. ring.add (value ring (evens p) y) (ring.mul (ring.neg x) (value ring (odds p) y))) (solve laws (x ∷ []) (opposite_of v0 ⊗ opposite_of v0) (v0 ⊗ v0) refl) ∙
      solve laws (x ∷ value ring (evens p) (ring.mul x x) ∷ value ring (odds p) (ring.mul x x) ∷ []) (v1 ⊕ opposite_of v0 ⊗ v2) (v1 ⊖ v0 ⊗ v2) refl

  -- h is 1 / 2 and i is 1 / x
  fold_step : (h i x beta e o : K) → ring.mul (ring.add ring.one ring.one) h ≡ ring.one → ring.mul x i ≡ ring.one
      → ring.mul h (ring.add (ring.add (ring.add e (ring.mul x o)) (difference ring e (ring.mul x o))) (ring.mul (ring.mul beta i) (difference ring (ring.add e (ring.mul x o)) (difference ring e (ring.mul x o)))))
      ≡ ring.add e (ring.mul beta o)
  fold_step h i x beta e o is_half is_inverse =
      solve laws (h ∷ i ∷ x ∷ beta ∷ e ∷ o ∷ [])
      (v0 ⊗ (v4 ⊕ v2 ⊗ v5 ⊕ (v4 ⊖ v2 ⊗ v5) ⊕ v3 ⊗ v1 ⊗ (v4 ⊕ v2 ⊗ v5 ⊖ (v4 ⊖ v2 ⊗ v5))))
      ((unit ⊕ unit) ⊗ v0 ⊗ v4 ⊕ (unit ⊕ unit) ⊗ v0 ⊗ (v2 ⊗ v1 ⊗ (v3 ⊗ v5)))
      refl ∙
      ap (λ t. ring.add (ring.mul t e) (ring.mul t (ring.mul (ring.mul x i) (ring.mul beta o)))) is_half ∙
      ap (λ t. ring.add (ring.mul ring.one e) (ring.mul ring.one (ring.mul t (ring.mul beta o)))) is_inverse ∙
      solve laws (beta ∷ e ∷ o ∷ []) (unit ⊗ v1 ⊕ unit ⊗ (unit ⊗ (v0 ⊗ v2))) (v1 ⊕ v0 ⊗ v2) refl

  -- The values at y and at -y fold to the folded polynomial's value at y^2.
  pub pair_folds : (h i y beta : K) (p : List K) → ring.mul (ring.add ring.one ring.one) h ≡ ring.one → ring.mul y i ≡ ring.one
      → ring.mul h (ring.add (ring.add (value ring p y) (value ring p (ring.neg y))) (ring.mul (ring.mul beta i) (difference ring (value ring p y) (value ring p (ring.neg y)))))
      ≡ value ring (folded ring beta p) (ring.mul y y)
  pair_folds h i y beta p is_half is_inverse =
      let e = value ring (evens p) (ring.mul y y) in
      let o = value ring (odds p) (ring.mul y y) in
      ap (λ a. ring.mul h (ring.add (ring.add a (value ring p (ring.neg y))) (ring.mul (ring.mul beta i) (difference ring a (value ring p (ring.neg y)))))) (value_of_halves p y) ∙
      ap (λ b. ring.mul h (ring.add (ring.add (ring.add e (ring.mul y o)) b) (ring.mul (ring.mul beta i) (difference ring (ring.add e (ring.mul y o)) b)))) (value_at_opposite p y) ∙
      fold_step h i y beta e o is_half is_inverse ∙
      sym (value_of_folded beta p (ring.mul y y))

  -- A single value is that of the polynomial everywhere.
  single_value : (p : List K) (x y : K) → HasDegreeBelow 1 p → value ring p x ≡ value ring p y
  single_value [] x y below = refl
  single_value (c ∷ []) x y below = value_of_constant laws c x ∙ sym (value_of_constant laws c y)
  single_value (c ∷ (d ∷ p)) x y below = absurd (omega arith)

  pub value_through_one : (g x v a : K) (values : List K) → length values ≡ 1 → slice_get values 0 ≡ Some a → IsValueThrough ring g values x v → a ≡ v
  value_through_one g x v a values one here through =
      let p = through.polynomial in
      let below : HasDegreeBelow 1 p = subst (λ n. length p ≤ n) one through.degree in
      same_Some a (value ring p (power ring g 0)) (sym here ∙ through.takes.at_power 0 (omega (arith, one)))
      ∙ single_value p (power ring g 0) x below ∙ through.value_is

module _ {K : Type 0} (ring : RingOps K) where
  -- A fold halves the number of coefficients.
  pub folded_length : (beta : K) (p : List K) (n : ℕ) → HasDegreeBelow (2 * n) p → HasDegreeBelow n (folded ring beta p)
  unfolding folded
  folded_length beta [] n below = omega arith
  folded_length beta (c ∷ []) zero below = absurd (omega arith)
  folded_length beta (c ∷ []) (suc n) below = omega arith
  folded_length beta (c ∷ (d ∷ p)) zero below = absurd (omega arith)
  folded_length beta (c ∷ (d ∷ p)) (suc n) below = let rest = folded_length beta p n (omega arith) in omega (arith, rest)

module _ {K : Type 0} {ring : RingOps K} {inverse : K → K} (laws : FieldLaws ring inverse) (g : K) (h : ℕ) (some : 0 < h) (order : HasOrder ring g (2 * h)) where
  -- half way round the group lies the opposite of one
  pub half_way : power ring g h ≡ ring.neg ring.one
  half_way =
      elim (square_one laws (power ring g h) (sym (power-add laws.of_ring g h h) ∙ ap (power ring g) (twice h) ∙ order.reaches)) [
        | inl same ↦ absurd (order.first h some (omega arith) same)
        | inr opposite ↦ opposite
      ]

  -- so one and its opposite differ
  pub two_nonzero : ring.add ring.one ring.one ≢ ring.zero
  two_nonzero e = order.first h some (omega arith) (half_way ∙ sym (unique_neg laws.of_ring ring.one ring.one e))

pub none_folded : {K : Type 0} (ring : RingOps K) (g x : K) (values : List K) (h : ℕ) (done : List K) → done ≡ [] → AreFoldedSoFar ring g x values h 0 done
none_folded ring g x values h done e = λ p takes. record { number = ap length e; at_power = λ i below. absurd (omega arith) }

module _ {K : Type 0} {ring : RingOps K} (laws : RingLaws ring) (g w half : K) (h : ℕ) (minus : power ring g h ≡ ring.neg ring.one) (undone : ring.mul g w ≡ ring.one)
    (is_half : ring.mul (ring.add ring.one ring.one) half ≡ ring.one) where
  opposite_point : (i : ℕ) → power ring g (i + h) ≡ ring.neg (power ring g i)
  opposite_point i =
      power-add laws g i h ∙ ap (ring.mul (power ring g i)) minus ∙ solve laws (power ring g i ∷ []) (v0 ⊗ opposite_of unit) (opposite_of v0) refl

  undone_power : (i : ℕ) → ring.mul (power ring g i) (power ring w i) ≡ ring.one
  undone_power i = sym (power-mul laws g w i) ∙ ap (λ t. power ring t i) undone ∙ power-one laws i

  folded_entry : (x : K) (p : List K) (i : ℕ)
      → ring.mul half (ring.add (ring.add (value ring p (power ring g i)) (value ring p (power ring g (i + h))))
      (ring.mul (ring.mul x (power ring w i)) (difference ring (value ring p (power ring g i)) (value ring p (power ring g (i + h))))))
      ≡ value ring (folded ring x p) (power ring (ring.mul g g) i)
  folded_entry x p i =
      let y = power ring g i in
      ap (λ z. ring.mul half (ring.add (ring.add (value ring p y) (value ring p z)) (ring.mul (ring.mul x (power ring w i)) (difference ring (value ring p y) (value ring p z))))) (opposite_point i)
      ∙ pair_folds laws half (power ring w i) y x p is_half (undone_power i) ∙ ap (value ring (folded ring x p)) (sym (power-mul laws g g i))

  module _ (x : K) (values : List K) where
    pub one_more_folded : (n : ℕ) (a b v : K) (before after : List K) → n < h → slice_get values n ≡ Some a → slice_get values (n + h) ≡ Some b
        → v ≡ ring.mul half (ring.add (ring.add a b) (ring.mul (ring.mul x (power ring w n)) (difference ring a b))) → after ≡ before ++ v ∷ []
        → AreFoldedSoFar ring g x values h n before → AreFoldedSoFar ring g x values h (n + 1) after
    one_more_folded n a b v before after below read_a read_b is pushed so_far = λ p takes.
        let done = so_far p takes in
        let first : a ≡ value ring p (power ring g n) = same_Some a _ (sym read_a ∙ takes.at_power n (omega arith)) in
        let second : b ≡ value ring p (power ring g (n + h)) = same_Some b _ (sym read_b ∙ takes.at_power (n + h) (omega arith)) in
        let folds : v ≡ value ring (folded ring x p) (power ring (ring.mul g g) n) =
        is ∙ ap (λ t. ring.mul half (ring.add (ring.add t b) (ring.mul (ring.mul x (power ring w n)) (difference ring t b)))) first
        ∙ ap (λ t. ring.mul half (ring.add (ring.add (value ring p (power ring g n)) t) (ring.mul (ring.mul x (power ring w n)) (difference ring (value ring p (power ring g n)) t)))) second
        ∙ folded_entry x p n in
        record {
          number = one_more_number before after v n done.number pushed;
          at_power = one_more_listed (λ i. Some (value ring (folded ring x p) (power ring (ring.mul g g) i))) before after v n done.number done.at_power (ap Some (sym folds)) pushed;
        }

module _ {K : Type 0} {ring : RingOps K} (laws : RingLaws ring) where
  -- What has a value through the values has it through the folded ones, at the squares.
  pub folded_through : (g x : K) (values done : List K) (h n : ℕ) (v : K) → length values ≡ h + h → length done ≡ h → n ≡ h → AreFoldedSoFar ring g x values h n done → IsValueThrough ring g values x v
      → IsValueThrough ring (ring.mul g g) done (ring.mul x x) v
  folded_through g x values done h n v size half_size ended all through =
      let p = through.polynomial in
      let degree : HasDegreeBelow (2 * h) p = (let whole : h + h ≡ 2 * h = omega arith in subst (λ n. length p ≤ n) (size ∙ whole) through.degree) in
      record {
        polynomial = folded ring x p;
        degree = subst (λ n. length (folded ring x p) ≤ n) (sym half_size) (folded_length ring x p h degree);
        takes = subst (λ n. AreValuesAtPowers ring (ring.mul g g) (folded ring x p) n done) (ended ∙ sym half_size) (all p (subst (λ n. AreValuesAtPowers ring g p n values) size through.takes));
        value_is = folded_at_square laws x p ∙ through.value_is;
      }

suc_of : (n : ℕ) → 0 < n → suc (n - 1) ≡ n
suc_of n some = omega arith

half_of_some : (n : ℕ) → 0 < n → 2 * (n / 2) ≡ n → 0 < n / 2
half_of_some n some even = omega arith

module _ {F : Type 0} {E : Type 0} {base : RingOps F} {inverse : F → F} (laws : FieldLaws base inverse) {extension : RingOps E} {embed : F → E} (keeps : KeepsRing base extension embed)
    (g : F) (n : ℕ) (some : 0 < n) (even : 2 * (n / 2) ≡ n) (order : HasOrder base g n) where
  own_order : HasOrder base g (2 * (n / 2))
  own_order = subst (HasOrder base g) (sym even) order

  pub half_of_two : (two : F) → two ≡ base.add base.one base.one → two ≢ base.zero
  half_of_two two is e = two_nonzero laws g (n / 2) (half_of_some n some even) own_order (sym is ∙ e)

  pub embedded_half : (two : F) → two ≡ base.add base.one base.one → extension.mul (extension.add extension.one extension.one) (embed (inverse two)) ≡ extension.one
  embedded_half two is =
      ap (λ t. extension.mul (extension.add t t) (embed (inverse two))) (sym keeps.one) ∙ ap (λ t. extension.mul t (embed (inverse two))) (sym (keeps.add base.one base.one) ∙ ap embed (sym is))
      ∙ sym (keeps.mul two (inverse two)) ∙ ap embed (laws.mul_inverse two (half_of_two two is)) ∙ keeps.one

  pub embedded_half_way : power extension (embed g) (n / 2) ≡ extension.neg extension.one
  embedded_half_way =
      sym (kept_power keeps g (embed g) (n / 2) refl) ∙ ap embed (half_way laws g (n / 2) (half_of_some n some even) own_order) ∙ keeps.neg base.one ∙ ap extension.neg keeps.one

  around : base.mul g (power base g (n - 1)) ≡ power base g n
  unfolding power
  around = ap (power base g) (suc_of n some)

  pub embedded_undone : extension.mul (embed g) (embed (power base g (n - 1))) ≡ extension.one
  embedded_undone = sym (keeps.mul g (power base g (n - 1))) ∙ ap embed (around ∙ order.reaches) ∙ keeps.one

  pub order_of_square : HasOrder base (base.mul g g) (n / 2)
  order_of_square =
      subst (λ t. HasOrder base t (n / 2)) (power-two laws.of_ring g) (order_of_period laws.of_ring g n order (n / 2) 2 (omega arith) even)

powers_get : {K : Type 0} (ring : RingOps K) (g : K) (n i : ℕ) → i < n → slice_get (powers_from ring g 0 n) i ≡ Some (power ring g i)
powers_get ring g n i below =
    let same : 0 + i ≡ i = omega arith in
    slice_get-get_or (powers_from ring g 0 n) i ring.one (omega (arith, powers_length ring g 0 n)) ∙ ap Some (powers_at ring g 0 n i ring.one below ∙ ap (power ring g) same)

value_of_mapped : {F : Type 0} {E : Type 0} (extension : RingOps E) (embed : F → E) (p : List F) (x : E) → value extension (map embed p) x ≡ value_over extension embed p x
value_of_mapped extension embed [] x = refl
value_of_mapped extension embed (c ∷ p) x = ap (λ t. extension.add (embed c) (extension.mul t x)) (value_of_mapped extension embed p x)

module _ {F : Type 0} {base : RingOps F} {inverse : F → F} (laws : FieldLaws base inverse) (g : F) (values : List F) (order : HasOrder base g (length values)) where
  through_bounded : length (interpolation base inverse (powers_from base g 0 (length values)) values) ≡ length values
  through_bounded = interpolation_length base inverse (powers_from base g 0 (length values)) values (powers_length base g 0 (length values)) ∙ powers_length base g 0 (length values)

  through_takes : (i : ℕ) → i < length values → slice_get values i ≡ Some (value base (interpolation base inverse (powers_from base g 0 (length values)) values) (power base g i))
  through_takes i below =
      let n = length values in
      let points = powers_from base g 0 n in
      let u = interpolation base inverse points values in
      let takes = interpolation_takes laws points values (powers_length base g 0 n) (powers_without_repeats laws.of_ring g n order) in
      ap (λ t. slice_get t i) (sym takes) ∙ slice_get-map (value base u) points i ∙ ap (option_map (value base u)) (powers_get base g n i below)

  -- What takes the values at the powers, with no more coefficients than values, is the polynomial through them everywhere.
  pub same_as_through : (p : List F) → HasDegreeBelow (length values) p → AreValuesAtPowers base g p (length values) values → (x : F)
      → value base p x ≡ value base (interpolation base inverse (powers_from base g 0 (length values)) values) x
  same_as_through p degree takes x =
      let n = length values in
      let u = interpolation base inverse (powers_from base g 0 n) values in
      let many = powers_length base g 0 n in
      interpolation_unique laws n p u (powers_from base g 0 n) degree (omega (arith, through_bounded)) (omega (arith, many)) (powers_without_repeats laws.of_ring g n order)
      (all_powers base (λ y. value base p y ≡ value base u y) g n (λ i below. same_Some _ _ (sym (takes.at_power i below) ∙ through_takes i below))) x

module _ {F : Type 0} {E : Type 0} {base : RingOps F} {inverse : F → F} (laws : FieldLaws base inverse) {extension : RingOps E} {embed : F → E} (keeps : KeepsRing base extension embed)
    (g : F) (values : List F) (order : HasOrder base g (length values)) where
  -- The polynomial through values on a group, seen in an extension.
  pub interpolation_through : (above : List E) (x : E) → above ≡ map embed values
      → IsValueThrough extension (embed g) above x (value_over extension embed (interpolation base inverse (powers_from base g 0 (length values)) values) x)
  interpolation_through above x are =
      let n = length values in
      let u = interpolation base inverse (powers_from base g 0 n) values in
      let size : length above ≡ n = ap length are ∙ length-map values embed in
      let degree : length (map embed u) ≡ length above = length-map u embed ∙ through_bounded laws g values order ∙ sym size in
      record {
        polynomial = map embed u;
        degree = subst (λ m. m ≤ length above) (sym degree) (omega arith);
        takes = record {
          number = refl;
          at_power = λ i below.
              ap (λ t. slice_get t i) are ∙ slice_get-map embed values i ∙ ap (option_map embed) (through_takes laws g values order i (subst (λ m. i < m) size below))
              ∙ ap Some (kept_value_over keeps (λ c. c) embed (λ c. refl) u (power base g i) (power extension (embed g) i) (kept_power keeps g (embed g) i refl)
              ∙ sym (value_of_mapped extension embed u (power extension (embed g) i)));
        };
        value_is = value_of_mapped extension embed u x;
      }
